use Rattle.std.proofs.Common.{◌≡◌, ◌+◌, ◌<◌, ◌++◌, ℕ, List, [], ◌∷◌, arith, rules, ap, sym, length, take, get_or}
use Rattle.std.specs.List.{flat_map}
use Rattle.std.proofs.lemmas.List.{length-append}
use Rattle.std.proofs.lemmas.List.Folds.{length-flat_map-take}
use Rattle.rx_tree.specs.declared.name.Part.{Part}
use Rattle.rx_names.specs.Homes.{variables_at}
use Rattle.rx_names.specs.Deriving.{next_text}
use Rattle.rx_names.proofs.tail.append_others.Goals as goal

-- what is too long behind some parts is too long behind them all
longer : (f : Part → List ℕ) (parts : List Part) (place most : ℕ) (before bytes : List ℕ) (part : Part) → place < length parts → part ≡ get_or parts place part
    → bytes ≡ before ++ flat_map f (take place parts) → most < length bytes + length (f part) → most < length before + length (flat_map f parts)
longer f parts place most before bytes part within is made long =
    let e : length (f (get_or parts place part)) ≡ length (f part) = ap (λ p. length (f p)) (sym is) in
    omega (arith, ap length made, length-append before (flat_map f (take place parts)), length-flat_map-take f parts place part within)

pub returns-in_err-append-clause-long : goal.returns-in_err-append-clause-long
returns-in_err-append-clause-long c is =
    let long : c.args.most < length c.loop-part.bytes.items + 1 = c.in_err-append.ensures.long (search rules) in
    longer (next_text (variables_at c.args.stacks.now c.args.a) c.args.pools.now) c.args.parts.now c.loop-part.part-index c.args.most
    c.args.bytes.now.items c.loop-part.bytes.items c.part-item.result c.loop-part-test.true c.part-item.is c.loop-part.invariant.made
    (omega (arith, long))

pub returns-in_err-append_part-clause-long : goal.returns-in_err-append_part-clause-long
returns-in_err-append_part-clause-long c is =
    longer (next_text (variables_at c.args.stacks.now c.args.a) c.args.pools.now) c.args.parts.now c.loop-part.part-index c.args.most
    c.args.bytes.now.items c.loop-part.bytes.items c.part-item.result c.loop-part-test.true c.part-item.is c.loop-part.invariant.made
    (omega (
      arith,
      ap length c.in_ok-append.ensures.ok,
      length-append c.loop-part.bytes.items (46 ∷ []),
      c.in_err-append_part.ensures.long (search rules),
    ))
