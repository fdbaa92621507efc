use Rattle.std.proofs.Common.{◌≡◌, true, false, true≢false, rules, sym, ◌∙◌, arith}
use Rattle.wt_symbol.specs.Sides.{pair_of}
use Rattle.wt_workers.proofs.Shrinking.{not_there, not_without}
use Rattle.wt_workers.proofs.verdict.shrunk_by.Goals as goal

pub returns-then-not-has : goal.returns-then-not-has
returns-then-not-has g c =
    let no : c.has.result ≡ false = search rules in
    record { within = λ j h. h; less = omega arith; provable = c.requires.provable; tight = not_there (pair_of c.args.pair.now) c.args.steps c.args.set c.args.i (λ h. true≢false (sym (c.has.ensures.1 h) ∙ no)) }

pub returns-then-has : goal.returns-then-has
returns-then-has g c = record { within = λ j h. h; less = omega arith; provable = c.requires.provable; tight = λ t leaves. c.requires.needed c.args.i t (c.has-2.ensures.0 c.if-has.true) leaves }

pub returns : goal.returns
returns g c =
    let yes : c.has.result ≡ true = search rules in
    let no : c.in_ok-prove.field-0 ≡ false = search rules in
    record {
      within = λ j h. h;
      less = omega arith;
      provable = c.requires.provable;
      tight = not_without (pair_of c.args.pair.now) c.args.steps c.args.set c.without-less.result c.args.i (c.has.ensures.0 yes) c.without-less.ensures.number (λ proved. true≢false (sym (c.in_ok-prove.ensures.exact.1 proved) ∙ no));
    }
