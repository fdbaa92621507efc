-- What calls that add to a list of sums have added, one after another.
use Rattle.std.proofs.Common.{ℕ, zero, suc, ◌+◌, ◌<◌, ◌≡◌, ◌⊎◌, ◌↔◌, List, [], ◌∷◌, ◌++◌, map, take, get_or, length, refl, sym, ap, ◌∙◌, subst, inl, inr, arith}
use Rattle.std.proofs.lemmas.Bool.{cases_order}
use Rattle.wt_bag.specs.Choices.{Has, drop_at}
use Rattle.wt_bag.proofs.HasLaws.{has_left, has_right, has_split}
use Rattle.wt_form.specs.Trees.{Terms, Cond}
use Rattle.wt_form.specs.Parts.{one_term}
use Rattle.wt_form.specs.Views.{OneTerm}
use Rattle.wt_congruent.proofs.Pairing.{at_put, at_get, drop_at-map}
use Rattle.wt_places.specs.Lists.{conds_from}
use Rattle.wt_places.specs.Gained.{Gained, Upto, WithoutAt}

pub gained_one : (old new : List Terms) (vs : Terms) (P : Terms → Type 0) → new ≡ old ++ vs ∷ [] → P vs → ((us : Terms) → P us → us ≡ vs) → Gained old new P
gained_one old new vs P e p one us = (λ h. there (has_split us old (vs ∷ []) (subst (Has us) e h)), λ h. subst (Has us) (sym e) (back h))
  where
    there : Has us old ⊎ Has us (vs ∷ []) → Has us old ⊎ P us
    there (inl h) = inl h
    there (inr (inl q)) = inr (subst P (sym q) p)
    there (inr (inr h)) = absurd h

    back : Has us old ⊎ P us → Has us (old ++ vs ∷ [])
    back (inl h) = has_left us old (vs ∷ []) h
    back (inr h) = has_right us old (vs ∷ []) (inl (one us h))

pub gained_none : (old new : List Terms) (P : Terms → Type 0) → new ≡ old → ((us : Terms) → P us → ⊥) → Gained old new P
gained_none old new P e none us = (λ h. inl (subst (Has us) e h), λ h. back h)
  where
    back : Has us old ⊎ P us → Has us new
    back (inl h) = subst (Has us) (sym e) h
    back (inr p) = absurd (none us p)

-- no place so far
pub gained_start : (P : ℕ → Terms → Type 0) (old new : List Terms) → new ≡ old → Gained old new (Upto P 0)
gained_start P old new e = gained_none old new (Upto P 0) e (λ us h. let l = h.1 in let bad : ⊥ = omega (arith, l) in absurd bad)

-- one place more
pub gained_more : (P : ℕ → Terms → Type 0) (j : ℕ) (a b c : List Terms) → Gained a b (Upto P j) → Gained b c (P j) → Gained a c (Upto P (j + 1))
gained_more P j a b c g h us = (λ k. there ((h us).0 k), λ k. back k)
  where
    first : Has us a ⊎ Upto P j us → Has us a ⊎ Upto P (j + 1) us
    first (inl k) = inl k
    first (inr u) = let l = u.1 in inr (u.0, omega (arith, l), u.2)

    there : Has us b ⊎ P j us → Has us a ⊎ Upto P (j + 1) us
    there (inl k) = first ((g us).0 k)
    there (inr p) = inr (j, omega arith, p)

    last : (i : ℕ) → (i ≡ j) ⊎ ((i < j) ⊎ (j < i)) → i < j + 1 → P i us → Has us c
    last i (inl q) l p = (h us).1 (inr (subst (λ k. P k us) q p))
    last i (inr (inl q)) l p = (h us).1 (inl ((g us).1 (inr (i, q, p))))
    last i (inr (inr q)) l p = let bad : ⊥ = omega arith in absurd bad

    back : Has us a ⊎ Upto P (j + 1) us → Has us c
    back (inl k) = (h us).1 (inl ((g us).1 (inl k)))
    back (inr u) = last u.0 (cases_order u.0 j) u.1 u.2

-- one row after another
pub gained_seq : (P Q : Terms → Type 0) (a b c : List Terms) → Gained a b P → Gained b c Q → Gained a c (λ us. P us ⊎ Q us)
gained_seq P Q a b c g h us = (λ k. there ((h us).0 k), λ k. back k)
  where
    first : Has us a ⊎ P us → Has us a ⊎ (P us ⊎ Q us)
    first (inl k) = inl k
    first (inr p) = inr (inl p)

    there : Has us b ⊎ Q us → Has us a ⊎ (P us ⊎ Q us)
    there (inl k) = first ((g us).0 k)
    there (inr q) = inr (inr q)

    back : Has us a ⊎ (P us ⊎ Q us) → Has us c
    back (inl k) = (h us).1 (inl ((g us).1 (inl k)))
    back (inr (inl p)) = (h us).1 (inl ((g us).1 (inr p)))
    back (inr (inr q)) = (h us).1 (inr q)

-- the same, said in other words
pub gained_as : (P Q : Terms → Type 0) (a b : List Terms) → ((us : Terms) → (P us ↔ Q us)) → Gained a b P → Gained a b Q
gained_as P Q a b same g us = (λ k. there ((g us).0 k), λ k. (g us).1 (back k))
  where
    there : Has us a ⊎ P us → Has us a ⊎ Q us
    there (inl h) = inl h
    there (inr p) = inr ((same us).0 p)

    back : Has us a ⊎ Q us → Has us a ⊎ P us
    back (inl h) = inl h
    back (inr q) = inr ((same us).1 q)

-- what an empty list has gained is all that the new one has
pub gained_whole : (P : Terms → Type 0) (none new : List Terms) → none ≡ [] → Gained none new P → (us : Terms) → (Has us new ↔ P us)
gained_whole P none new e g us = (λ h. there ((g us).0 h), λ p. (g us).1 (inr p))
  where
    there : Has us none ⊎ P us → P us
    there (inl h) = absurd (subst (Has us) e h)
    there (inr p) = p

pub pushed : {X Y : Type 0} (f : X → Y) (xs ys : List X) (x : X) → ys ≡ xs ++ x ∷ [] → map f ys ≡ map f xs ++ f x ∷ []
pushed f xs ys x e = ap (map f) e ∙ over xs
  where
    over : (zs : List _) → map f (zs ++ x ∷ []) ≡ map f zs ++ f x ∷ []
    over [] = refl
    over (z ∷ zs) = ap (λ l. f z ∷ l) (over zs)

pub take_map : {X Y : Type 0} (f : X → Y) (j : ℕ) (xs : List X) → map f (take j xs) ≡ take j (map f xs)
take_map f zero xs = refl
take_map f (suc j) [] = refl
take_map f (suc j) (x ∷ xs) = ap (λ l. f x ∷ l) (take_map f j xs)

pub length_behind : {X Y : Type 0} (f : X → Y) (xs : List X) (ys : List Y) → map f xs ≡ ys → length ys ≡ length xs
length_behind f xs ys e = ap length (sym e) ∙ over xs
  where
    over : (zs : List _) → length (map f zs) ≡ length zs
    over [] = refl
    over (z ∷ zs) = ap suc (over zs)

-- the term without its condition at place j is added, or it is not
pub gained_without : {X : Type 0} (P : ℕ → Cond → Type 0) (t : OneTerm) (f : X → Cond) (refs left : List X) (j : ℕ) (x : X) (old new : List Terms) (vs : Terms) → new ≡ old ++ vs ∷ [] → j < length refs → x ≡ get_or refs j x →
    P j (f x) → left ≡ drop_at j refs → vs ≡ one_term t.ranges (conds_from (map f left)) t.pieces → Gained old new (WithoutAt P t (map f refs) j)
gained_without P t f refs left j x old new vs e l g s d v =
    let is : vs ≡ one_term t.ranges (conds_from (drop_at j (map f refs))) t.pieces = v ∙ ap (λ z. one_term t.ranges z t.pieces) (ap (λ z. conds_from (map f z)) d ∙ ap conds_from (sym (drop_at-map f j refs))) in
    gained_one old new vs (WithoutAt P t (map f refs) j) e (at_put (P j) f refs j x l g s, is) (λ us p. p.1 ∙ sym is)

pub absent_without : {X : Type 0} (P : ℕ → Cond → Type 0) (t : OneTerm) (f : X → Cond) (refs : List X) (j : ℕ) (x : X) (old new : List Terms) → new ≡ old → x ≡ get_or refs j x → (P j (f x) → ⊥) → Gained old new (WithoutAt P t (map f refs) j)
absent_without P t f refs j x old new e g n = gained_none old new (WithoutAt P t (map f refs) j) e (λ us p. n (at_get (P j) f refs j x g p.0))
