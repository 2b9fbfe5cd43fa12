use Rattle.std.proofs.Common.{List, ◌+◌, sym, subst, arith}
use Rattle.rx_vars.specs.Tables.{table_of}
use Rattle.rx_heap.specs.Stamps.{AreStamped, Entry}
use Rattle.rx_heap.proofs.StampLemmas.{appended, begun, begun_with}
use Rattle.rx_heap.proofs.directory.Directory.append.Goals as goal

pub invariant_of-self-in_err-insert : goal.invariant_of-self-in_err-insert
invariant_of-self-in_err-insert c =
    subst (λ (es : List Entry). AreStamped (table_of c.give.new.stamps.entries) es (c.self.inside.next + 1)) (sym c.in_err-insert.ensures.err)
    (begun (table_of c.self.inside.stamps.entries) (table_of c.give.new.stamps.entries) c.self.inside.entries.entries c.self.inside.next c.args.name.now c.args.self.now c.self.invariant
    c.self.view_is c.requires (rw c.bytes.ensures.bytes at c.in_ok-give.ensures.stamp) (rw c.bytes.ensures.bytes at c.in_ok-give.ensures.others))

pub invariant_of-self-2 : goal.invariant_of-self-2
invariant_of-self-2 c =
    let count = c.len.ensures.len in
    let below = c.if-len-ge-MOST.false in
    begun_with (table_of c.self.inside.stamps.entries) (table_of c.give.new.stamps.entries) c.self.inside.entries.entries c.insert.new.self.entries c.self.inside.next
    c.args.name.now c.args.value c.args.self.now c.self.invariant c.self.view_is c.requires
    (rw c.bytes.ensures.bytes at c.in_ok-give.ensures.stamp) (rw c.bytes.ensures.bytes at c.in_ok-give.ensures.others)
    (omega arith) (rw c.in_ok-stored.ensures.same at c.in_ok-insert.ensures.entries)

pub returns-clause-ok : goal.returns-clause-ok
returns-clause-ok c =
    appended (table_of c.self.inside.stamps.entries) c.self.inside.entries.entries c.insert.new.self.entries c.self.inside.next c.args.name.now c.args.value c.args.self.now
    c.self.invariant c.self.view_is (rw c.in_ok-stored.ensures.same at c.in_ok-insert.ensures.entries)
