use Rattle.prv_sym.proofs.SymbolLaws.{symbol-said}
use Rattle.prv_sym.proofs.laws.symbols_say_what_is_evaluated.Goals as goal

pub returns : goal.returns
returns c = symbol-said
