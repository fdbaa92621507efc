-- Places of lists: what a loop over them has added, and lists inside a form split there.
use Rattle.std.proofs.Common.{ℕ, zero, suc, ◌<◌, ◌≤◌, ◌≡◌, ◌↔◌, List, [], ◌∷◌, map, take, drop, get_or, length, refl, sym, ap, ◌∙◌, subst, inl, inr, arith}
use Rattle.wt_bag.specs.Choices.{At, Has}
use Rattle.wt_form.specs.Trees.{Terms, Conds, no_conds, cond_then, Cond}
use Rattle.wt_form.specs.Parts.{conds_append, conds_list}
use Rattle.wt_congruent.proofs.Pairing.{at_put, at_get}
use Rattle.wt_places.specs.Lists.{conds_from}
use Rattle.wt_places.specs.Gained.{Gained, Upto, AtPlace, EachOf}
use Rattle.wt_places.proofs.GainedLaws.{gained_as, take_map}

pub drop_map : {X Y : Type 0} (f : X → Y) (j : ℕ) (xs : List X) → map f (drop j xs) ≡ drop j (map f xs)
drop_map f zero xs = refl
drop_map f (suc j) [] = refl
drop_map f (suc j) (x ∷ xs) = drop_map f j xs

pub at_implies : {X : Type 0} (P Q : X → Type 0) (j : ℕ) (xs : List X) → ((x : X) → P x → Q x) → At P j xs → At Q j xs
at_implies P Q j [] f h = absurd h
at_implies P Q zero (x ∷ xs) f h = f x h
at_implies P Q (suc j) (x ∷ xs) f h = at_implies P Q j xs f h

-- what an element beside those around it gives, its place gives
pub gained_place : {X Y : Type 0} (f : X → Y) (P : List Y → Y → List Y → Terms → Type 0) (refs before after : List X) (j k : ℕ) (x : X) (old new : List Terms) → j < length refs → x ≡ get_or refs j x → before ≡ take j refs → k ≡ suc j → after ≡ drop k refs →
    Gained old new (P (map f before) (f x) (map f after)) → Gained old new (AtPlace P (map f refs) j)
gained_place f P refs before after j k x old new l e b s a = gained_as (P (map f before) (f x) (map f after)) (AtPlace P (map f refs) j) old new (λ us. (
  λ p. at_put (λ y. P (take j (map f refs)) y (drop (suc j) (map f refs)) us) f refs j x l e (subst (λ z. P z (f x) (drop (suc j) (map f refs)) us) first (subst (λ z. P (map f before) (f x) z us) second p)),
  λ h. subst (λ z. P (map f before) (f x) z us) (sym second) (subst (λ z. P z (f x) (drop (suc j) (map f refs)) us) (sym first) (at_get (λ y. P (take j (map f refs)) y (drop (suc j) (map f refs)) us) f refs j x e h)),
))
  where
    first : map f before ≡ take j (map f refs)
    first = ap (map f) b ∙ take_map f j refs

    second : map f after ≡ drop (suc j) (map f refs)
    second = ap (map f) a ∙ ap (λ n. map f (drop n refs)) s ∙ drop_map f (suc j) refs

-- the same of elements alone
pub gained_each : {X : Type 0} (P : X → Terms → Type 0) (xs : List X) (i : ℕ) (x : X) (old new : List Terms) → i < length xs → x ≡ get_or xs i x → Gained old new (P x) → Gained old new (EachOf P xs i)
gained_each P xs i x old new l e = gained_as (P x) (EachOf P xs i) old new (λ us. (there xs i l e us, back xs i e us))
  where
    there : (xs : List _) (i : ℕ) → i < length xs → x ≡ get_or xs i x → (us : Terms) → P x us → At (λ y. P y us) i xs
    there [] i l e us p = let bad : ⊥ = omega arith in absurd bad
    there (y ∷ xs) zero l e us p = subst (λ z. P z us) e p
    there (y ∷ xs) (suc i) l e us p = there xs i (omega arith) e us p

    back : (xs : List _) (i : ℕ) → x ≡ get_or xs i x → (us : Terms) → At (λ y. P y us) i xs → P x us
    back [] i e us h = absurd h
    back (y ∷ xs) zero e us h = subst (λ z. P z us) (sym e) h
    back (y ∷ xs) (suc i) e us h = back xs i e us h

pub each_places : {X : Type 0} (P : X → Terms → Type 0) (xs : List X) (n : ℕ) → length xs ≤ n → (us : Terms) → (Upto (EachOf P xs) n us ↔ ((x : X) × Has x xs × P x us))
each_places P xs n l us = (λ h. there xs h.0 h.2, λ h. let r = back xs h.0 h.1 h.2 in let m = r.1 in (r.0, omega (arith, m, l), r.2))
  where
    there : (xs : List _) (i : ℕ) → At (λ y. P y us) i xs → (x : _) × Has x xs × P x us
    there [] i h = absurd h
    there (y ∷ xs) zero h = (y, inl refl, h)
    there (y ∷ xs) (suc i) h = let r = there xs i h in (r.0, inr r.1, r.2)

    back : (xs : List _) (x : _) → Has x xs → P x us → (i : ℕ) × (i < length xs) × At (λ y. P y us) i xs
    back [] x h p = absurd h
    back (y ∷ xs) x (inl e) p = (0, omega arith, subst (λ z. P z us) e p)
    back (y ∷ xs) x (inr h) p = let r = back xs x h p in let m = r.1 in (suc r.0, omega (arith, m), r.2)

-- places of conditions are conditions with those around them
pub cond_parts : (cs : Conds) (j : ℕ) (Q : Cond → Type 0) → At Q j (conds_list cs) →
    (b : Conds) × (c : Cond) × (a : Conds) × (cs ≡ conds_append b (cond_then c a)) × Q c × (conds_list b ≡ take j (conds_list cs)) × (conds_list a ≡ drop (suc j) (conds_list cs))
cond_parts no_conds j Q h = absurd h
cond_parts (cond_then c cs) zero Q h = (no_conds, c, cs, refl, h, refl, refl)
cond_parts (cond_then c cs) (suc j) Q h = let r = cond_parts cs j Q h in (cond_then c r.0, r.1, r.2, ap (cond_then c) r.3, r.4, ap (λ l. c ∷ l) r.5, r.6)

pub parts_cond : (b : Conds) (c : Cond) (a : Conds) (Q : Cond → Type 0) → Q c →
    (j : ℕ) × (j < length (conds_list (conds_append b (cond_then c a)))) × At Q j (conds_list (conds_append b (cond_then c a))) × (take j (conds_list (conds_append b (cond_then c a))) ≡ conds_list b) × (drop (suc j) (conds_list (conds_append b (cond_then c a))) ≡ conds_list a)
parts_cond no_conds c a Q q = (0, omega arith, q, refl, refl)
parts_cond (cond_then d b) c a Q q = let r = parts_cond b c a Q q in let l = r.1 in (suc r.0, omega (arith, l), r.2, ap (λ z. d ∷ z) r.3, r.4)

pub cond_places : (P : List Cond → Cond → List Cond → Terms → Type 0) (cs : Conds) (n : ℕ) → length (conds_list cs) ≤ n → (us : Terms) →
    (Upto (AtPlace P (conds_list cs)) n us ↔ ((b : Conds) × (c : Cond) × (a : Conds) × (cs ≡ conds_append b (cond_then c a)) × P (conds_list b) c (conds_list a) us))
cond_places P cs n len us = (there, back)
  where
    there : Upto (AtPlace P (conds_list cs)) n us → (b : Conds) × (c : Cond) × (a : Conds) × (cs ≡ conds_append b (cond_then c a)) × P (conds_list b) c (conds_list a) us
    there (j, l, at) =
        let s = cond_parts cs j (λ c. P (take j (conds_list cs)) c (drop (suc j) (conds_list cs)) us) at in
        (s.0, s.1, s.2, s.3, subst (λ z. P z s.1 (conds_list s.2) us) (sym s.5) (subst (λ z. P (take j (conds_list cs)) s.1 z us) (sym s.6) s.4))

    back : ((b : Conds) × (c : Cond) × (a : Conds) × (cs ≡ conds_append b (cond_then c a)) × P (conds_list b) c (conds_list a) us) → Upto (AtPlace P (conds_list cs)) n us
    back (b, c, a, is, p) =
        let whole = conds_append b (cond_then c a) in
        let s = parts_cond b c a (λ c. P (conds_list b) c (conds_list a) us) p in
        let l = subst (λ z. s.0 < length (conds_list z)) (sym is) s.1 in
        let turn : (x : Cond) → P (conds_list b) x (conds_list a) us → P (take s.0 (conds_list whole)) x (drop (suc s.0) (conds_list whole)) us = λ x q. subst (λ z. P z x (drop (suc s.0) (conds_list whole)) us) (sym s.3) (subst (λ z. P (conds_list b) x z us) (sym s.4) q) in
        (s.0, omega (arith, l, len), subst (λ z. At (λ x. P (take s.0 (conds_list z)) x (drop (suc s.0) (conds_list z)) us) s.0 (conds_list z)) (sym is) (at_implies (λ x. P (conds_list b) x (conds_list a) us) (λ x. P (take s.0 (conds_list whole)) x (drop (suc s.0) (conds_list whole)) us) s.0 (conds_list whole) turn s.2))

-- the conditions are those before a place, the one there and those after it
pub whole_at : {X : Type 0} (f : X → Cond) (refs : List X) (j : ℕ) (x : X) (cs : Conds) → map f refs ≡ conds_list cs → j < length refs → x ≡ get_or refs j x →
    cs ≡ conds_append (conds_from (map f (take j refs))) (cond_then (f x) (conds_from (map f (drop (suc j) refs))))
whole_at f [] j x cs m l e = let bad : ⊥ = omega arith in absurd bad
whole_at f (y ∷ refs) zero x no_conds m l e = let bad : ⊥ = cc in absurd bad
whole_at f (y ∷ refs) zero x (cond_then c cs) m l e =
    ap (λ z. cond_then z cs) (head_is (sym m) ∙ ap f (sym e)) ∙ ap (cond_then (f x)) (rebuilt cs ∙ ap conds_from (tail_is (sym m)))
  where
    head_is : {a b : Cond} {xs ys : List Cond} → a ∷ xs ≡ b ∷ ys → a ≡ b
    head_is e = cc

    tail_is : {a b : Cond} {xs ys : List Cond} → a ∷ xs ≡ b ∷ ys → xs ≡ ys
    tail_is e = cc

    rebuilt : (ds : Conds) → ds ≡ conds_from (conds_list ds)
    rebuilt no_conds = refl
    rebuilt (cond_then d ds) = ap (cond_then d) (rebuilt ds)
whole_at f (y ∷ refs) (suc j) x no_conds m l e = let bad : ⊥ = cc in absurd bad
whole_at f (y ∷ refs) (suc j) x (cond_then c cs) m l e =
    ap (λ z. cond_then z cs) (head_is (sym m)) ∙ ap (cond_then (f y)) (whole_at f refs j x cs (tail_is m) (omega arith) e)
  where
    head_is : {a b : Cond} {xs ys : List Cond} → a ∷ xs ≡ b ∷ ys → a ≡ b
    head_is e = cc

    tail_is : {a b : Cond} {xs ys : List Cond} → a ∷ xs ≡ b ∷ ys → xs ≡ ys
    tail_is e = cc
