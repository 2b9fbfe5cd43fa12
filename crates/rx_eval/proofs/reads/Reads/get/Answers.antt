use Rattle.std.proofs.Common.{◌≡◌, ◌∙◌, true, slice_get, Some, rules}
use Rattle.rx_eval.specs.Values.{Agree, same_name}
use Rattle.rx_eval.proofs.ValueLemmas.{read_at}
use Rattle.rx_eval.proofs.reads.Reads.get.Goals as goal

pub returns-in-Some : goal.returns-in-Some
returns-in-Some c =
    let at : slice_get c.self.inside.entries c.args.place ≡ Some c.in-Some.entry.now = search rules in
    let same : same_name c.in-Some.entry.now.0 c.args.name.now ≡ true = search rules in
    let one : Agree c.self.inside.entries = search rules in
    let is : c.args.self.now ≡ c.self.inside.entries = search rules in
    c.as_ref.ensures.value ∙ rw is (read_at c.self.inside.entries c.args.place c.in-Some.entry.now c.args.name.now one at same)
