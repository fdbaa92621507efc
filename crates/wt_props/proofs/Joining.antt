-- Where the columns of a join come from.
use Rattle.std.proofs.Common.{◌≡◌, ℕ, ◌-◌, Bool, true, false, List, map, Option, Result, Ok, Err, sym, ap, ◌∙◌}
use Rattle.std.specs.Prelude.{nat_le, IfOk, if◌then◌else◌}
use Rattle.std.specs.List.{list_all}
use Rattle.wt_plan.specs.Tree.{PlanTree}
use Rattle.wt_plan.specs.Measures.{width}
use Rattle.wt_known.specs.Sets.{all_below}
use Rattle.wt_known.specs.Facts as facts
use Rattle.wt_known.specs.Facts.{nowhere, origin_if, origin}
use Rattle.wt_props.specs.declared.origins.Origin.{Origin}
use Rattle.wt_props.specs.Origins.{origin_of}

-- whether no column is one of an operand so wide
abbrev pub are_right : ℕ → List ℕ → Bool
are_right w cols = list_all (λ c. nat_le w c) cols

abbrev pub joined : PlanTree → PlanTree → List ℕ → facts.Origin
joined p q cols = if all_below (width p) cols then origin p cols else origin_if (are_right (width p) cols) (origin q (map (λ c. c - width p) cols))

pub joined_nowhere : (p q : PlanTree) (cols : List ℕ) (b d : Bool) → b ≡ all_below (width p) cols → b ≡ false → d ≡ are_right (width p) cols → d ≡ false → joined p q cols ≡ nowhere
joined_nowhere p q cols b d is e like f =
    ap (λ t. if t then origin p cols else origin_if (are_right (width p) cols) (origin q (map (λ c. c - width p) cols))) (sym is ∙ e)
    ∙ ap (λ t. origin_if t (origin q (map (λ c. c - width p) cols))) (sym like ∙ f)

joined_right : (p q : PlanTree) (cols moved : List ℕ) → all_below (width p) cols ≡ false → are_right (width p) cols ≡ true → moved ≡ map (λ c. c - width p) cols → joined p q cols ≡ origin q moved
joined_right p q cols moved e f is =
    ap (λ t. if t then origin p cols else origin_if (are_right (width p) cols) (origin q (map (λ c. c - width p) cols))) e
    ∙ ap (λ t. origin_if t (origin q (map (λ c. c - width p) cols))) f ∙ ap (origin q) (sym is)

pub joined_ok : {E : Type 0} (o : Result (Option Origin) E) (p q : PlanTree) (cols moved : List ℕ) (whole : facts.Origin) (b d : Bool)
    → b ≡ all_below (width p) cols → b ≡ false → d ≡ are_right (width p) cols → d ≡ true → moved ≡ map (λ c. c - width p) cols → whole ≡ joined p q cols
    → IfOk o (λ x. origin_of x ≡ origin q moved) → IfOk o (λ x. origin_of x ≡ whole)
joined_ok (Ok x) p q cols moved whole b d is e like f m w h = h ∙ sym (joined_right p q cols moved (sym is ∙ e) (sym like ∙ f) m) ∙ sym w
joined_ok (Err x) p q cols moved whole b d is e like f m w h = tt
