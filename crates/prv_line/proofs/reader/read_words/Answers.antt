use Rattle.prv_line.specs.Views.{texts}
use Rattle.prv_line.proofs.AnswerLemmas.{found, refused}
use Rattle.prv_line.proofs.RangeLemmas.{answer-in_range}
use Rattle.prv_line.proofs.reader.read_words.Goals as goal

pub returns-clause-found : goal.returns-clause-found
returns-clause-found c = found (texts c.args.words.now) c.read_any.result c.read_any.ensures

pub returns-clause-refused : goal.returns-clause-refused
returns-clause-refused c = refused (texts c.args.words.now) c.read_any.result c.read_any.ensures

pub returns-clause-in_range : goal.returns-clause-in_range
returns-clause-in_range c = answer-in_range (texts c.args.words.now) c.read_any.result c.read_any.ensures
