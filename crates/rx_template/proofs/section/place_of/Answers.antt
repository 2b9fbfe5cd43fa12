use Rattle.std.proofs.Common.{◌-◌}
use Rattle.std.proofs.lemmas.List.{take_rest}
use Rattle.rx_cutfn.proofs.PlaceLemmas.{some_bytes}
use Rattle.rx_template.proofs.PlaceLemmas.{place_of-found, place_of-not_found}
use Rattle.rx_template.proofs.section.place_of.Goals as goal

pub returns-in-Some-clause-place : goal.returns-in-Some-clause-place
returns-in-Some-clause-place c =
    place_of-found c.args.string.now c.args.text.now _ c.args.from c.in-Some.at c.requires.0
    (some_bytes c.args.string.now c.if-is_empty.ensures) (take_rest c.args.text.now (c.args.from - 1)) c.in-Some.ensures

pub returns-in-None-clause-place : goal.returns-in-None-clause-place
returns-in-None-clause-place c =
    place_of-not_found c.args.string.now c.args.text.now _ c.args.from c.requires.0
    (some_bytes c.args.string.now c.if-is_empty.ensures) (take_rest c.args.text.now (c.args.from - 1)) c.in-None.ensures
