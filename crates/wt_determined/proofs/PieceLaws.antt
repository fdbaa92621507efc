-- Holding each part of a variable, by places.
use Rattle.std.proofs.Common.{ℕ, zero, suc, ◌+◌, ◌<◌, ◌≤◌, ◌≡◌, ◌⊎◌, List, [], ◌∷◌, get_or, length, refl, sym, subst, inl, inr, arith}
use Rattle.std.proofs.lemmas.Bool.{cases_order}
use Rattle.wt_bag.specs.Choices.{At, Has}
use Rattle.wt_symbol.specs.declared.head.Part.{Part}
use Rattle.wt_form.specs.declared.form.Expr.{Expr}
use Rattle.wt_form.specs.declared.form.Expr.TheVariants.{Of}
use Rattle.wt_form.specs.Facts.{HoldsParts}

-- the part at place j, counted from k, is held
abbrev Held : ℕ → ℕ → List Expr → ℕ → Part → Type 0
Held u k ps j h = Has (Of u (k + j) h.cols) ps

from_places : (u k : ℕ) (hs : List Part) (ps : List Expr) → ((j : ℕ) → j < length hs → At (Held u k ps j) j hs) → HoldsParts u k hs ps
from_places u k [] ps f = tt
from_places u k (h ∷ hs) ps f = (
  subst (λ n. Has (Of u n h.cols) ps) (let e : k + 0 ≡ k = omega arith in e) (f 0 (omega arith)),
  from_places u (suc k) hs ps (λ j l. moved j (f (suc j) (omega (arith, l)))),
)
  where
    moved : (j : ℕ) → At (Held u k ps (suc j)) j hs → At (Held u (suc k) ps j) j hs
    moved j g = at_moved hs j g
      where
        at_moved : (gs : List Part) (i : ℕ) → At (Held u k ps (suc j)) i gs → At (Held u (suc k) ps j) i gs
        at_moved [] i g = absurd g
        at_moved (x ∷ gs) zero g = subst (λ n. Has (Of u n x.cols) ps) (let e : k + suc j ≡ suc k + j = omega arith in e) g
        at_moved (x ∷ gs) (suc i) g = at_moved gs i g

to_places : (u k : ℕ) (hs : List Part) (ps : List Expr) → HoldsParts u k hs ps → (j : ℕ) → j < length hs → At (Held u k ps j) j hs
to_places u k [] ps h j l = let bad : ⊥ = omega arith in absurd bad
to_places u k (x ∷ hs) ps h zero l = subst (λ n. Has (Of u n x.cols) ps) (let e : k ≡ k + 0 = omega arith in e) h.0
to_places u k (x ∷ hs) ps h (suc j) l = at_moved hs j (to_places u (suc k) hs ps h.1 j (omega (arith, l)))
  where
    at_moved : (gs : List Part) (i : ℕ) → At (Held u (suc k) ps j) i gs → At (Held u k ps (suc j)) i gs
    at_moved [] i g = absurd g
    at_moved (y ∷ gs) zero g = subst (λ n. Has (Of u n y.cols) ps) (let e : suc k + j ≡ k + suc j = omega arith in e) g
    at_moved (y ∷ gs) (suc i) g = at_moved gs i g

at_zero : (u : ℕ) (hs : List Part) (ps : List Expr) (j i : ℕ) → At (Held u 0 ps j) i hs → At (λ h. Has (Of u j h.cols) ps) i hs
at_zero u [] ps j i g = absurd g
at_zero u (h ∷ hs) ps j zero g = subst (λ n. Has (Of u n h.cols) ps) (let e : 0 + j ≡ j = omega arith in e) g
at_zero u (h ∷ hs) ps j (suc i) g = at_zero u hs ps j i g

zero_at : (u : ℕ) (hs : List Part) (ps : List Expr) (j i : ℕ) → At (λ h. Has (Of u j h.cols) ps) i hs → At (Held u 0 ps j) i hs
zero_at u [] ps j i g = absurd g
zero_at u (h ∷ hs) ps j zero g = subst (λ n. Has (Of u n h.cols) ps) (let e : j ≡ 0 + j = omega arith in e) g
zero_at u (h ∷ hs) ps j (suc i) g = zero_at u hs ps j i g

pub all_held : (u n : ℕ) (hs : List Part) (ps : List Expr) → length hs ≤ n → ((j : ℕ) → j < n → At (λ h. Has (Of u j h.cols) ps) j hs) → HoldsParts u 0 hs ps
all_held u n hs ps l f = from_places u 0 hs ps (λ j m. zero_at u hs ps j j (f j (omega (arith, m, l))))

get_at : (P : Part → Type 0) (hs : List Part) (j : ℕ) (x : Part) → x ≡ get_or hs j x → At P j hs → P x
get_at P [] j x e h = absurd h
get_at P (y ∷ hs) zero x e h = subst P (sym e) h
get_at P (y ∷ hs) (suc j) x e h = get_at P hs j x e h

put_at_place : (P : Part → Type 0) (hs : List Part) (j : ℕ) (x : Part) → j < length hs → x ≡ get_or hs j x → P x → At P j hs
put_at_place P [] j x l e h = let bad : ⊥ = omega arith in absurd bad
put_at_place P (y ∷ hs) zero x l e h = subst P e h
put_at_place P (y ∷ hs) (suc j) x l e h = put_at_place P hs j x (omega arith) e h

pub one_not_held : (u j : ℕ) (hs : List Part) (ps : List Expr) (x : Part) → j < length hs → x ≡ get_or hs j x → (Has (Of u j x.cols) ps → ⊥) → HoldsParts u 0 hs ps → ⊥
one_not_held u j hs ps x l e n h = n (get_at (λ y. Has (Of u j y.cols) ps) hs j x e (at_zero u hs ps j j (to_places u 0 hs ps h j l)))

-- one place more
pub held_more : (u j : ℕ) (hs : List Part) (ps : List Expr) (x : Part) → j < length hs → x ≡ get_or hs j x → Has (Of u j x.cols) ps → ((i : ℕ) → i < j → At (λ h. Has (Of u i h.cols) ps) i hs) → (i : ℕ) → i < j + 1 → At (λ h. Has (Of u i h.cols) ps) i hs
held_more u j hs ps x l e h before i m = go (cases_order i j)
  where
    go : (i ≡ j) ⊎ ((i < j) ⊎ (j < i)) → At (λ h. Has (Of u i h.cols) ps) i hs
    go (inl q) = subst (λ k. At (λ h. Has (Of u k h.cols) ps) k hs) (sym q) (put_at_place (λ y. Has (Of u j y.cols) ps) hs j x l e h)
    go (inr (inl q)) = before i q
    go (inr (inr q)) = let bad : ⊥ = omega (arith, q, m) in absurd bad

-- which part is given past the end does not matter inside
pub same_get : (hs : List Part) (i : ℕ) (d e : Part) → i < length hs → get_or hs i d ≡ get_or hs i e
same_get [] i d e l = let bad : ⊥ = omega arith in absurd bad
same_get (x ∷ hs) zero d e l = refl
same_get (x ∷ hs) (suc i) d e l = same_get hs i d e (omega (arith, l))
