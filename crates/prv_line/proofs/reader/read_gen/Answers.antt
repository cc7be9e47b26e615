use Rattle.prv_line.specs.Views.{texts}
use Rattle.prv_line.proofs.CommandLemmas.{gen_number, gen_size, gen_end, some_left}
use Rattle.prv_line.proofs.reader.read_gen.Goals as goal

pub returns-in_default : goal.returns-in_default
returns-in_default c = gen_number (texts c.args.words.now) c.in_default.ensures

pub returns-in_default-take_number : goal.returns-in_default-take_number
returns-in_default-take_number c =
    let number = c.in-Some.ensures in
    gen_size (texts c.args.words.now) (texts c.in-Some.words.now) number.0 number.3 number.1 c.in_default-take_number.ensures

pub returns-then-not-is_empty : goal.returns-then-not-is_empty
returns-then-not-is_empty c =
    let number = c.in-Some.ensures in
    let size = c.in-Some-take_number.ensures in
    gen_end (texts c.args.words.now) (texts c.in-Some.words.now) (texts c.in-Some-take_number.words.now) number.0 size.0 number.3 number.1 size.3 size.1
    (some_left c.in-Some-take_number.words.now c.if-not-is_empty.ensures)
