use Rattle.std.proofs.Common.{◌≡◌, ◌++◌, ◌∷◌, [], ℕ, List, None, OnOk, sym, ap, subst, ◌∙◌}
use Rattle.std.specs.Map.{values_of}
use Rattle.rx_tree.specs.declared.value.Value.{Value}
use Rattle.rx_vars.specs.Tables.{look_up, table_of, with_entry}
use Rattle.rx_heap.specs.Stamps.{AreStamped, Entry}
use Rattle.rx_heap.proofs.StampLemmas.{is_stamp, agree, absent, found_at, put_new, stamped-value, with_entry-values}
use Rattle.rx_heap.proofs.directory.Directory.put.Goals as goal
use Rattle.rx_heap.proofs.directory.Directory.put.Goals.{in-Some+in_default-get_mut, in_default}

pub invariant_of-self : goal.invariant_of-self
invariant_of-self c =
    subst (λ (es : List Entry). AreStamped (table_of c.self.inside.stamps.entries) es c.self.inside.next)
    (sym (c.get_mut.follows.holds (c.in-Some-get_mut.entry.now.0, c.args.value)).0)
    (stamped-value (table_of c.self.inside.stamps.entries) c.self.inside.entries.entries c.self.inside.next c.in-Some.stamp
    c.in-Some-get_mut.entry.now c.args.value c.self.invariant (sym c.in-Some-get_mut.ensures.value))

pub returns-in-Some-get_mut-clause-ok : goal.returns-in-Some-get_mut-clause-ok
returns-in-Some-get_mut-clause-ok c =
    ap (λ (es : List Entry). values_of es) (c.get_mut.follows.holds (c.in-Some-get_mut.entry.now.0, c.args.value)).0
    ∙ sym (with_entry-values (is_stamp c.in-Some.stamp) c.args.name.now c.self.inside.entries.entries c.in-Some-get_mut.entry.now c.args.value
    (agree (table_of c.self.inside.stamps.entries) c.self.inside.entries.entries c.self.inside.next c.in-Some.stamp c.args.name.now c.self.invariant (sym (rw c.bytes.ensures.bytes at c.in-Some.ensures)))
    (sym c.in-Some-get_mut.ensures.value))
    ∙ ap (λ (table : List (List ℕ × Value)). with_entry table c.args.name.now c.args.value) c.self.view_is

pub invariant_of-self-in_default-get_mut : goal.invariant_of-self-in_default-get_mut
invariant_of-self-in_default-get_mut c =
    subst (λ (es : List Entry). AreStamped (table_of c.self.inside.stamps.entries) es c.self.inside.next)
    (sym (ap (λ m. m.entries) c.get_mut.follows.holds-at-none)) c.self.invariant

pub append-requires : goal.append-requires
append-requires c =
    elim c.match-stamp_of.branch [
      | in-Some+in_default-get_mut w ↦
          ap (λ (table : List (List ℕ × Value)). look_up table c.args.name.now)
          (w.self-is ∙ ap (λ m. values_of m.entries) w.get_mut.follows.holds-at-none ∙ c.self.view_is)
          ∙ sym (found_at (table_of c.self.inside.stamps.entries) c.self.inside.entries.entries c.self.inside.next w.in-Some.stamp c.args.name.now c.args.self.now None
          c.self.invariant (rw c.bytes.ensures.bytes at w.in-Some.ensures) w.in_default-get_mut.ensures.value c.self.view_is)
      | in_default w ↦
          ap (λ (table : List (List ℕ × Value)). look_up table c.args.name.now) w.self-is
          ∙ sym (absent (table_of c.self.inside.stamps.entries) c.self.inside.entries.entries c.self.inside.next c.args.name.now c.args.self.now c.self.invariant
          (rw c.bytes.ensures.bytes at w.in_default.ensures) c.self.view_is)
    ]

pub returns-clause-ok : goal.returns-clause-ok
returns-clause-ok c =
    elim c.match-stamp_of.branch [
      | in-Some+in_default-get_mut w ↦
          let same = w.self-is ∙ ap (λ m. values_of m.entries) w.get_mut.follows.holds-at-none ∙ c.self.view_is in
          let none = found_at (table_of c.self.inside.stamps.entries) c.self.inside.entries.entries c.self.inside.next w.in-Some.stamp c.args.name.now c.args.self.now None
          c.self.invariant (rw c.bytes.ensures.bytes at w.in-Some.ensures) w.in_default-get_mut.ensures.value c.self.view_is in
          subst (λ (xs : List (List ℕ × Value)). OnOk c.append.result (c.append.new.self ≡ xs))
          (ap (λ (xs : List (List ℕ × Value)). xs ++ (c.args.name.now, c.args.value) ∷ []) same ∙ sym (put_new c.args.name.now c.args.value c.args.self.now (sym none)))
          c.append.ensures.ok
      | in_default w ↦
          let same = w.self-is in
          let none = absent (table_of c.self.inside.stamps.entries) c.self.inside.entries.entries c.self.inside.next c.args.name.now c.args.self.now c.self.invariant
          (rw c.bytes.ensures.bytes at w.in_default.ensures) c.self.view_is in
          subst (λ (xs : List (List ℕ × Value)). OnOk c.append.result (c.append.new.self ≡ xs))
          (ap (λ (xs : List (List ℕ × Value)). xs ++ (c.args.name.now, c.args.value) ∷ []) same ∙ sym (put_new c.args.name.now c.args.value c.args.self.now (sym none)))
          c.append.ensures.ok
    ]
