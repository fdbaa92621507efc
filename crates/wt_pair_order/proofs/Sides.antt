-- No destination stands twice.
use Rattle.std.proofs.Common.{◌≡◌, ℕ, suc, ◌+◌, List, [], ◌∷◌, ◌++◌, map, refl, ap, sym, ◌∙◌, subst, inl, inr}
use Rattle.std.specs.Prelude.{flat_map}
use Rattle.wt_bag.specs.Choices.{Apart, Has}
use Rattle.wt_bag.proofs.EachLaws.{each_map, each_for}
use Rattle.wt_bag.proofs.HasLaws.{has_from_map, has_from_flat_map}
use Rattle.wt_template.specs.Order.{numbers_from}
use Rattle.wt_template.specs.Shapes.{if_letter}
use Rattle.wt_symbol.specs.Sides.{SideTree, input, proj, filtered, inner_join, left_join, in_sub, dedup, size_of}
use Rattle.wt_pair.specs.Candidates.{makers, destinations_over}
use Rattle.wt_pair_order.proofs.Apart.{apart_map, apart_flat_map, numbers_apart, has_letter, apart_letter}
use Rattle.wt_pair_order.proofs.Trees.{TellsOne, TellsTwo, trees_apart}

abbrev root_of : SideTree → ℕ
root_of (proj a s) = 0
root_of (filtered p a s) = 1
root_of (inner_join a b s t) = 2
root_of (left_join a b s t) = 3
root_of (in_sub a s t) = 4
root_of (dedup s) = 5
root_of (input r) = 6

abbrev left_of : SideTree → SideTree
left_of (input r) = input r
left_of (proj a s) = s
left_of (filtered p a s) = s
left_of (inner_join a b s t) = s
left_of (left_join a b s t) = s
left_of (in_sub a s t) = s
left_of (dedup s) = s

abbrev right_of : SideTree → SideTree
right_of (inner_join a b s t) = t
right_of (left_join a b s t) = t
right_of (in_sub a s t) = t
right_of s = s

-- the first symbol of a root, and its second one
abbrev first_of : SideTree → ℕ
first_of (input r) = r
first_of (proj a s) = a
first_of (filtered p a s) = p
first_of (inner_join a b s t) = a
first_of (left_join a b s t) = a
first_of (in_sub a s t) = a
first_of (dedup s) = 0

abbrev second_of : SideTree → ℕ
second_of (filtered p a s) = a
second_of (inner_join a b s t) = b
second_of (left_join a b s t) = b
second_of s = 0

-- ---- variants with one symbol, and with two

map-map : {X Y Z : Type 0} (f : Y → Z) (g : X → Y) (xs : List X) → map f (map g xs) ≡ map (λ x. f (g x)) xs
map-map f g [] = refl
map-map f g (x ∷ xs) = ap (λ ys. f (g x) ∷ ys) (map-map f g xs)

map-flat_map : {X Y Z : Type 0} (f : Y → Z) (g : X → List Y) (xs : List X) → map f (flat_map g xs) ≡ flat_map (λ x. map f (g x)) xs
map-flat_map f g [] = refl
map-flat_map f g (x ∷ xs) = map-append f (g x) (flat_map g xs) ∙ ap (λ ys. map f (g x) ++ ys) (map-flat_map f g xs)
  where
    map-append : {Y Z : Type 0} (f : Y → Z) (xs ys : List Y) → map f (xs ++ ys) ≡ map f xs ++ map f ys
    map-append f [] ys = refl
    map-append f (x ∷ xs) ys = ap (λ zs. f x ∷ zs) (map-append f xs ys)

by_one : {V : Type 0} (make : V → SideTree) (w : ℕ → V) (n : ℕ) → ((a : ℕ) → first_of (make (w a)) ≡ a) → Apart (map make (map w (numbers_from 0 n)))
by_one make w n first =
    subst Apart (sym (map-map make w (numbers_from 0 n)))
    (apart_map (λ a. make (w a)) (numbers_from 0 n) (λ a b e. sym (first a) ∙ ap first_of e ∙ first b) (numbers_apart 0 n))

by_two : {V : Type 0} (make : V → SideTree) (w : ℕ → ℕ → V) (m n : ℕ) → ((a b : ℕ) → (first_of (make (w a b)) ≡ a) × (second_of (make (w a b)) ≡ b))
    → Apart (map make (flat_map (λ a. map (λ b. w a b) (numbers_from 0 n)) (numbers_from 0 m)))
by_two make w m n both =
    subst Apart (sym (map-flat_map make (λ a. map (λ b. w a b) (numbers_from 0 n)) (numbers_from 0 m)))
    (apart_flat_map (λ a. map make (map (λ b. w a b) (numbers_from 0 n))) first_of (numbers_from 0 m)
    (λ a z h.
    let (v, is, e) = has_from_map z make (map (λ b. w a b) (numbers_from 0 n)) h in
    let (b, of, f) = has_from_map v (λ b. w a b) (numbers_from 0 n) is in
    ap first_of e ∙ ap (λ v. first_of (make v)) f ∙ (both a b).0)
    (λ a h. subst Apart (sym (map-map make (λ b. w a b) (numbers_from 0 n)))
    (apart_map (λ b. make (w a b)) (numbers_from 0 n) (λ b c e. sym (both a b).1 ∙ ap second_of e ∙ (both a c).1) (numbers_apart 0 n)))
    (numbers_apart 0 m))

-- ---- what makers tell

-- a property of each choice of one symbol, or of two, is one of each variant
each_one : {V : Type 0} (P : V → Type 0) (ops letter n : ℕ) (w : ℕ → V) (v : V) → ((a : ℕ) → P (w a)) → Has v (if_letter ops letter (map w (numbers_from 0 n))) → P v
each_one P ops letter n w v all h =
    let (a, is, e) = has_from_map v w (numbers_from 0 n) (has_letter ops letter v (map w (numbers_from 0 n)) h) in subst P (sym e) (all a)

each_two : {V : Type 0} (P : V → Type 0) (ops letter m n : ℕ) (w : ℕ → ℕ → V) (v : V) → ((a b : ℕ) → P (w a b))
    → Has v (if_letter ops letter (flat_map (λ a. map (λ b. w a b) (numbers_from 0 n)) (numbers_from 0 m))) → P v
each_two P ops letter m n w v all h =
    let (a, of, k) = has_from_flat_map v (λ a. map (λ b. w a b) (numbers_from 0 n)) (numbers_from 0 m) (has_letter ops letter v _ h) in
    let (b, is, e) = has_from_map v (λ b. w a b) (numbers_from 0 n) k in
    subst P (sym e) (all a b)

projections_tell : (ops n : ℕ) → TellsOne root_of size_of left_of right_of 0 (if_letter ops 0 (map (λ a s. proj a s) (numbers_from 0 n)))
projections_tell ops n = record {
  by_root = λ v x h. each_one (λ (v : SideTree → SideTree). root_of (v x) ≡ 0) ops 0 n (λ a s. proj a s) v (λ a. refl) h;
  by_operand = λ v x h. each_one (λ (v : SideTree → SideTree). left_of (v x) ≡ x) ops 0 n (λ a s. proj a s) v (λ a. refl) h;
  by_size = λ v x h. each_one (λ (v : SideTree → SideTree). size_of (v x) ≡ 1 + size_of x) ops 0 n (λ a s. proj a s) v (λ a. refl) h;
  apart = λ x. apart_letter (λ v. v x) ops 0 _ (by_one (λ v. v x) (λ a s. proj a s) n (λ a. refl));
}

filters_tell : (ops m n : ℕ) → TellsOne root_of size_of left_of right_of 1 (if_letter ops 1 (flat_map (λ p. map (λ a s. filtered p a s) (numbers_from 0 n)) (numbers_from 0 m)))
filters_tell ops m n = record {
  by_root = λ v x h. each_two (λ (v : SideTree → SideTree). root_of (v x) ≡ 1) ops 1 m n (λ p a s. filtered p a s) v (λ p a. refl) h;
  by_operand = λ v x h. each_two (λ (v : SideTree → SideTree). left_of (v x) ≡ x) ops 1 m n (λ p a s. filtered p a s) v (λ p a. refl) h;
  by_size = λ v x h. each_two (λ (v : SideTree → SideTree). size_of (v x) ≡ 1 + size_of x) ops 1 m n (λ p a s. filtered p a s) v (λ p a. refl) h;
  apart = λ x. apart_letter (λ v. v x) ops 1 _ (by_two (λ v. v x) (λ p a s. filtered p a s) m n (λ p a. (refl, refl)));
}

inner_joins_tell : (ops n : ℕ) → TellsTwo root_of size_of left_of right_of 2 (if_letter ops 2 (flat_map (λ a. map (λ b s t. inner_join a b s t) (numbers_from 0 n)) (numbers_from 0 n)))
inner_joins_tell ops n = record {
  by_root = λ v x y h. each_two (λ (v : SideTree → SideTree → SideTree). root_of (v x y) ≡ 2) ops 2 n n (λ a b s t. inner_join a b s t) v (λ a b. refl) h;
  by_left = λ v x y h. each_two (λ (v : SideTree → SideTree → SideTree). left_of (v x y) ≡ x) ops 2 n n (λ a b s t. inner_join a b s t) v (λ a b. refl) h;
  by_right = λ v x y h. each_two (λ (v : SideTree → SideTree → SideTree). right_of (v x y) ≡ y) ops 2 n n (λ a b s t. inner_join a b s t) v (λ a b. refl) h;
  by_size = λ v x y h. each_two (λ (v : SideTree → SideTree → SideTree). size_of (v x y) ≡ 1 + size_of x + size_of y) ops 2 n n (λ a b s t. inner_join a b s t) v (λ a b. refl) h;
  apart = λ x y. apart_letter (λ v. v x y) ops 2 _ (by_two (λ v. v x y) (λ a b s t. inner_join a b s t) n n (λ a b. (refl, refl)));
}

left_joins_tell : (ops n : ℕ) → TellsTwo root_of size_of left_of right_of 3 (if_letter ops 3 (flat_map (λ a. map (λ b s t. left_join a b s t) (numbers_from 0 n)) (numbers_from 0 n)))
left_joins_tell ops n = record {
  by_root = λ v x y h. each_two (λ (v : SideTree → SideTree → SideTree). root_of (v x y) ≡ 3) ops 3 n n (λ a b s t. left_join a b s t) v (λ a b. refl) h;
  by_left = λ v x y h. each_two (λ (v : SideTree → SideTree → SideTree). left_of (v x y) ≡ x) ops 3 n n (λ a b s t. left_join a b s t) v (λ a b. refl) h;
  by_right = λ v x y h. each_two (λ (v : SideTree → SideTree → SideTree). right_of (v x y) ≡ y) ops 3 n n (λ a b s t. left_join a b s t) v (λ a b. refl) h;
  by_size = λ v x y h. each_two (λ (v : SideTree → SideTree → SideTree). size_of (v x y) ≡ 1 + size_of x + size_of y) ops 3 n n (λ a b s t. left_join a b s t) v (λ a b. refl) h;
  apart = λ x y. apart_letter (λ v. v x y) ops 3 _ (by_two (λ v. v x y) (λ a b s t. left_join a b s t) n n (λ a b. (refl, refl)));
}

semijoins_tell : (ops n : ℕ) → TellsTwo root_of size_of left_of right_of 4 (if_letter ops 4 (map (λ a s t. in_sub a s t) (numbers_from 0 n)))
semijoins_tell ops n = record {
  by_root = λ v x y h. each_one (λ (v : SideTree → SideTree → SideTree). root_of (v x y) ≡ 4) ops 4 n (λ a s t. in_sub a s t) v (λ a. refl) h;
  by_left = λ v x y h. each_one (λ (v : SideTree → SideTree → SideTree). left_of (v x y) ≡ x) ops 4 n (λ a s t. in_sub a s t) v (λ a. refl) h;
  by_right = λ v x y h. each_one (λ (v : SideTree → SideTree → SideTree). right_of (v x y) ≡ y) ops 4 n (λ a s t. in_sub a s t) v (λ a. refl) h;
  by_size = λ v x y h. each_one (λ (v : SideTree → SideTree → SideTree). size_of (v x y) ≡ 1 + size_of x + size_of y) ops 4 n (λ a s t. in_sub a s t) v (λ a. refl) h;
  apart = λ x y. apart_letter (λ v. v x y) ops 4 _ (by_one (λ v. v x y) (λ a s t. in_sub a s t) n (λ a. refl));
}

the_one : {X : Type 0} (v w : X) → Has v (w ∷ []) → v ≡ w
the_one v w (inl e) = e
the_one v w (inr h) = absurd h

dedups_tell : (ops : ℕ) → TellsOne root_of size_of left_of right_of 5 (if_letter ops 5 ((λ s. dedup s) ∷ []))
dedups_tell ops = record {
  by_root = λ v x h. ap (λ (f : SideTree → SideTree). root_of (f x)) (is v h);
  by_operand = λ v x h. ap (λ (f : SideTree → SideTree). left_of (f x)) (is v h);
  by_size = λ v x h. ap (λ (f : SideTree → SideTree). size_of (f x)) (is v h);
  apart = λ x. apart_letter (λ v. v x) ops 5 _ (tt, tt);
}
  where
    is : (v : SideTree → SideTree) → Has v (if_letter ops 5 ((λ s. dedup s) ∷ [])) → v ≡ (λ s. dedup s)
    is v h = the_one v (λ s. dedup s) (has_letter ops 5 v ((λ s. dedup s) ∷ []) h)

pub destinations_apart : (ops most leaves lists preds : ℕ) → Apart (destinations_over ops most leaves lists preds)
destinations_apart ops most leaves lists preds =
    trees_apart root_of size_of left_of right_of (map (λ r. input r) (numbers_from 0 leaves)) (makers ops lists preds)
    (each_map (λ x. size_of x ≡ 0) (λ r. input r) (numbers_from 0 leaves) (each_for (numbers_from 0 leaves) (λ r. refl)))
    (apart_map (λ r. input r) (numbers_from 0 leaves) (λ r q e. ap first_of e) (numbers_apart 0 leaves))
    (projections_tell ops lists, (filters_tell ops preds lists, (inner_joins_tell ops lists, (left_joins_tell ops lists, (semijoins_tell ops lists, (dedups_tell ops, tt))))))
    0 (suc most)
