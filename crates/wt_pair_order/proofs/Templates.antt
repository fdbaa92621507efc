-- No template stands twice.
use Rattle.std.proofs.Common.{◌≡◌, ℕ, ◌+◌, [], ◌∷◌, refl, ap, ◌∙◌, inl, inr}
use Rattle.wt_bag.specs.Choices.{Apart, Has}
use Rattle.wt_template.specs.Shapes.{Shape, input, proj, filtered, inner_join, left_join, in_sub, dedup, size_of, if_letter, makers, templates}
use Rattle.wt_pair_order.proofs.Apart.{has_letter, apart_letter}
use Rattle.wt_pair_order.proofs.Trees.{TellsOne, TellsTwo, AllTell, trees_apart}

abbrev root_of : Shape → ℕ
root_of (proj t) = 0
root_of (filtered t) = 1
root_of (inner_join t u) = 2
root_of (left_join t u) = 3
root_of (in_sub t u) = 4
root_of (dedup t) = 5
root_of input = 6

abbrev left_of : Shape → Shape
left_of input = input
left_of (proj t) = t
left_of (filtered t) = t
left_of (inner_join t u) = t
left_of (left_join t u) = t
left_of (in_sub t u) = t
left_of (dedup t) = t

abbrev right_of : Shape → Shape
right_of (inner_join t u) = u
right_of (left_join t u) = u
right_of (in_sub t u) = u
right_of t = t

the_one : {X : Type 0} (v w : X) → Has v (w ∷ []) → v ≡ w
the_one v w (inl e) = e
the_one v w (inr h) = absurd h

one : (ops letter i : ℕ) (w : Shape → Shape) → ((x : Shape) → (root_of (w x) ≡ i) × (left_of (w x) ≡ x) × (size_of (w x) ≡ 1 + size_of x))
    → TellsOne root_of size_of left_of right_of i (if_letter ops letter (w ∷ []))
one ops letter i w tells = record {
  by_root = λ v x h. ap (λ (f : Shape → Shape). root_of (f x)) (is v h) ∙ (tells x).0;
  by_operand = λ v x h. ap (λ (f : Shape → Shape). left_of (f x)) (is v h) ∙ (tells x).1;
  by_size = λ v x h. ap (λ (f : Shape → Shape). size_of (f x)) (is v h) ∙ (tells x).2;
  apart = λ x. apart_letter (λ v. v x) ops letter (w ∷ []) (tt, tt);
}
  where
    is : (v : Shape → Shape) → Has v (if_letter ops letter (w ∷ [])) → v ≡ w
    is v h = the_one v w (has_letter ops letter v (w ∷ []) h)

two : (ops letter i : ℕ) (w : Shape → Shape → Shape)
    → ((x y : Shape) → (root_of (w x y) ≡ i) × (left_of (w x y) ≡ x) × (right_of (w x y) ≡ y) × (size_of (w x y) ≡ 1 + size_of x + size_of y))
    → TellsTwo root_of size_of left_of right_of i (if_letter ops letter (w ∷ []))
two ops letter i w tells = record {
  by_root = λ v x y h. ap (λ (f : Shape → Shape → Shape). root_of (f x y)) (is v h) ∙ (tells x y).0;
  by_left = λ v x y h. ap (λ (f : Shape → Shape → Shape). left_of (f x y)) (is v h) ∙ (tells x y).1;
  by_right = λ v x y h. ap (λ (f : Shape → Shape → Shape). right_of (f x y)) (is v h) ∙ (tells x y).2;
  by_size = λ v x y h. ap (λ (f : Shape → Shape → Shape). size_of (f x y)) (is v h) ∙ (tells x y).3;
  apart = λ x y. apart_letter (λ v. v x y) ops letter (w ∷ []) (tt, tt);
}
  where
    is : (v : Shape → Shape → Shape) → Has v (if_letter ops letter (w ∷ [])) → v ≡ w
    is v h = the_one v w (has_letter ops letter v (w ∷ []) h)

makers_tell : (ops : ℕ) → AllTell root_of size_of left_of right_of 0 (makers ops)
makers_tell ops = (
  one ops 0 0 proj (λ x. (refl, refl, refl)),
  (
    one ops 1 1 filtered (λ x. (refl, refl, refl)),
    (
      two ops 2 2 inner_join (λ x y. (refl, refl, refl, refl)),
      (
        two ops 3 3 left_join (λ x y. (refl, refl, refl, refl)),
        (
          two ops 4 4 in_sub (λ x y. (refl, refl, refl, refl)),
          (one ops 5 5 dedup (λ x. (refl, refl, refl)), tt),
        ),
      ),
    ),
  ),
)

pub templates_apart : (ops most : ℕ) → Apart (templates ops most)
templates_apart ops most = trees_apart root_of size_of left_of right_of (input ∷ []) (makers ops) (refl, tt) (tt, tt) (makers_tell ops) 1 most
