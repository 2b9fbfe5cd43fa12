use Rattle.std.proofs.Common.{◌≡◌, ◌<◌, ◌++◌, List, length, drop, slice_get, Some, None, subst, rules, arith}
use Rattle.rx_eval.specs.Names.{names_in}
use Rattle.rx_tree.specs.declared.name.Name.{Name}
use Rattle.rx_eval.specs.Numbers.{AreNumbered, AreNumbers}
use Rattle.rx_eval.proofs.NumberLemmas.{names_next, names_end, names_less}
use Rattle.rx_eval.proofs.listing.Listing.names_from.Goals as goal

pub loop-at-smaller : goal.loop-at-smaller
loop-at-smaller c =
    let is : c.self.inside.instrs ≡ c.args.self.now = c.self.view_is in
    let get : slice_get c.self.inside.numbers c.loop-at.at ≡ Some c.in-Some.own.now = search rules in
    let within : c.loop-at.at < length c.args.self.now =
    subst (λ code. c.loop-at.at < length code) is (names_less c.self.inside.names c.self.inside.instrs c.self.inside.numbers c.loop-at.at c.in-Some.own.now c.self.invariant get) in
    omega arith

pub loop-at-preserved : goal.loop-at-preserved
loop-at-preserved c =
    let is : c.self.inside.instrs ≡ c.args.self.now = c.self.view_is in
    let get : slice_get c.self.inside.numbers c.loop-at.at ≡ Some c.in-Some.own.now = search rules in
    names_next c.self.inside.names c.args.self.now c.self.inside.numbers c.loop-at.at c.in-Some.own.now c.loop-at.found c.push_names.new.found (names_in (drop c.args.place c.args.self.now))
    (subst (λ code. AreNumbered c.self.inside.names code c.self.inside.numbers) is c.self.invariant) get
    (subst (λ own. (wanted : List Name) → AreNumbers c.self.inside.names wanted own → c.push_names.new.found ≡ c.loop-at.found ++ wanted) c.as_slice.ensures c.in_ok-push_names.ensures)
    c.loop-at.invariant

pub returns : goal.returns
returns c =
    let is : c.self.inside.instrs ≡ c.args.self.now = c.self.view_is in
    let none : slice_get c.self.inside.numbers c.loop-at.at ≡ None = search rules in
    names_end c.self.inside.names c.args.self.now c.self.inside.numbers c.loop-at.at c.loop-at.found (names_in (drop c.args.place c.args.self.now))
    (subst (λ code. AreNumbered c.self.inside.names code c.self.inside.numbers) is c.self.invariant) none c.loop-at.invariant
