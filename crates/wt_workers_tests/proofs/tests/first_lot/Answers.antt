use Rattle.std.proofs.Common.{◌≡◌, ◌∙◌, min, length, drop, ap, sym, rules, arith, length-take}
use Rattle.std.proofs.lemmas.List.{length-map}
use Rattle.wt_pair.specs.Candidates.{pairs_of}
use Rattle.wt_pair.specs.Lots.{IsNextLot}
use Rattle.wt_symbol.specs.Sides.{pair_of}
use Rattle.wt_workers_tests.proofs.tests.first_lot.Goals as goal

pub returns-in-Some-clause-few : goal.returns-in-Some-clause-few
returns-in-Some-clause-few c =
    let next : IsNextLot c.new.result c.next_lot.new.self c.in-Some.lot = search rules in
    let rest = drop c.new.result.first (pairs_of c.new.result.bounds) in
    let many : length c.in-Some.lot.pairs ≡ min 4096 (length rest) = sym (length-map c.in-Some.lot.pairs pair_of) ∙ ap length next.pairs ∙ length-take 4096 rest in
    omega (arith, many)
