-- Lists with no element twice.
use Rattle.std.proofs.Common.{◌+◌, ◌≤◌, Bool, true, false, List, [], ◌∷◌, ◌++◌, map, ◌≡◌, refl, ap, arith, drop, get_or}
use Rattle.std.specs.Prelude.{◌≢◌, flat_map}
use Rattle.wt_bag.specs.Bags.{total, only, AtMostOne, Each}
use Rattle.wt_bag.specs.Choices.{choices, Apart}
use Rattle.wt_bag.proofs.EachLaws.{each_append, each_map, each_flat_map, each_for, each_implies}

apart_append : {X : Type 0} (xs ys : List X) → Apart xs → Apart ys → Each (λ x. Each (λ y. x ≢ y) ys) xs → Apart (xs ++ ys)
apart_append [] ys h k a = k
apart_append (x ∷ xs) ys h k a = (each_append (λ y. x ≢ y) xs ys h.0 a.0, apart_append xs ys h.1 k a.1)

apart_map : {X : Type 0} (c : X) (es : List (List X)) → Apart es → Apart (map (λ e. c ∷ e) es)
apart_map c [] h = tt
apart_map c (e ∷ es) h = (each_map (λ y. c ∷ e ≢ y) (λ e'. c ∷ e') es (each_implies _ _ es (λ e' n q. n (ap (λ l. drop 1 l) q)) h.0), apart_map c es h.1)

apart_heads : {X : Type 0} (c : X) (es : List (List X)) (cs : List X) (es' : List (List X)) → Each (λ d. c ≢ d) cs → Each (λ x. Each (λ y. x ≢ y) (flat_map (λ d. map (λ e. d ∷ e) es') cs)) (map (λ e. c ∷ e) es)
apart_heads c es cs es' h = each_map _ (λ e. c ∷ e) es (each_for es (λ e. each_flat_map (λ y. c ∷ e ≢ y) (λ d. map (λ e'. d ∷ e') es') cs
    (each_implies _ _ cs (λ d n. each_map (λ y. c ∷ e ≢ y) (λ e'. d ∷ e') es' (each_for es' (λ e' q. n (ap (λ l. get_or l 0 c) q)))) h)))

apart_flat : {X : Type 0} (xs : List X) (es : List (List X)) → Apart xs → Apart es → Apart (flat_map (λ c. map (λ e. c ∷ e) es) xs)
apart_flat [] es h k = tt
apart_flat (c ∷ cs) es h k = apart_append (map (λ e. c ∷ e) es) (flat_map (λ d. map (λ e. d ∷ e) es) cs) (apart_map c es k) (apart_flat cs es h.1 k) (apart_heads c es cs es h.0)

-- choices from lists with no element twice have no choice twice
pub apart_choices : {X : Type 0} (rs : List (List X)) → Each Apart rs → Apart (choices rs)
apart_choices [] h = (tt, tt)
apart_choices (r ∷ rs) h = apart_flat r (choices rs) h.0 (apart_choices rs h.1)

none_passes : {X : Type 0} (P : X → Bool) (Q : X → Type 0) (x : X) (ys : List X) → Q x → P x ≡ true → ((x y : X) → Q x → Q y → P x ≡ true → P y ≡ true → x ≡ y) → Each (λ y. x ≢ y) ys → Each Q ys → total (λ y. only (P y) 1) ys ≡ 0
none_passes P Q x [] qx t h n k = refl
none_passes P Q x (y ∷ ys) qx t h n k = here (P y) refl (none_passes P Q x ys qx t h n.1 k.1)
  where
    here : (b : Bool) → P y ≡ b → total (λ z. only (P z) 1) ys ≡ 0 → only b 1 + total (λ z. only (P z) 1) ys ≡ 0
    here true e ih = absurd (n.0 (h x y qx k.0 t e))
    here false e ih = omega (arith, ih)

-- where two elements that pass are always one, at most one passes
pub at_most_one_apart : {X : Type 0} (P : X → Bool) (Q : X → Type 0) (xs : List X) → Apart xs → Each Q xs → ((x y : X) → Q x → Q y → P x ≡ true → P y ≡ true → x ≡ y) → AtMostOne P xs
at_most_one_apart P Q [] a q h = omega arith
at_most_one_apart P Q (x ∷ xs) a q h = here (P x) refl (at_most_one_apart P Q xs a.1 q.1 h)
  where
    here : (b : Bool) → P x ≡ b → total (λ y. only (P y) 1) xs ≤ 1 → only b 1 + total (λ y. only (P y) 1) xs ≤ 1
    here true e ih = omega (arith, none_passes P Q x xs q.0 e h a.0 q.1)
    here false e ih = omega (arith, ih)
