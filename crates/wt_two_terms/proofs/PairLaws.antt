-- Steps over two terms by places, and as rows of the table.
use Rattle.std.proofs.Common.{ℕ, ◌+◌, ◌<◌, ◌≤◌, ◌≡◌, ◌⊎◌, ◌↔◌, inl, inr, Bool, true, List, [], ◌∷◌, ◌++◌, map, get_or, length, refl, sym, ap, ◌∙◌, subst, arith}
use Rattle.wt_bag.specs.Choices.{At, drop_at}
use Rattle.wt_form.specs.Trees.{Terms, term_then, Conds, cond_then, Cond, Pred, Join, is_in, not_in}
use Rattle.wt_form.specs.Parts.{one_term, terms_append, conds_append, conds_list}
use Rattle.wt_form.specs.Known.{Known}
use Rattle.wt_form.specs.Places.{others}
use Rattle.wt_form.specs.TwoTerms.{SplitByIn}
use Rattle.wt_form.specs.Steps.{PairRow, in_first, in_second, twin}
use Rattle.wt_form.specs.Views.{OneTerm, terms_list, terms_from}
use Rattle.wt_congruent.specs.Refs.{TermIs}
use Rattle.wt_congruent.proofs.Pairing.{at_put, at_get, drop_at-map}
use Rattle.wt_places.specs.Lists.{conds_from}
use Rattle.wt_places.specs.Gained.{Gained, Upto}
use Rattle.wt_places.proofs.GainedLaws.{gained_one, gained_none, gained_as, length_behind}
use Rattle.wt_places.proofs.Splits.{conds_back, cond_split, split_cond, term_split, split_term}
use Rattle.wt_places.proofs.PlaceLaws.{at_implies}
use Rattle.wt_two_terms.specs.Splits.{SplitBy}
use Rattle.wt_two_terms.specs.Pairs.{InnerAt, SplitAt, SplitFrom, TwinOf, PairOf, PairAt, TwoStep}

-- the term is added where the condition at place j splits it
pub gained_inner : {X : Type 0} (K : Known) (t : OneTerm) (c : Cond) (cs : Conds) (u : OneTerm) (rest : Terms) (f : X → Cond) (refs left : List X) (j : ℕ) (x : X) (old new : List Terms) → new ≡ old ++ term_then t.ranges cs t.pieces rest ∷ [] → j < length refs → x ≡ get_or refs j x → left ≡ drop_at j refs →
    SplitBy K t c cs u (f x) (map f left) → Gained old new (InnerAt K t c cs u rest (map f refs) j)
gained_inner K t c cs u rest f refs left j x old new e l g d s =
    let turned : SplitBy K t c cs u (f x) (drop_at j (map f refs)) = subst (SplitBy K t c cs u (f x)) (ap (map f) d ∙ sym (drop_at-map f j refs)) s in
    gained_one old new (term_then t.ranges cs t.pieces rest) (InnerAt K t c cs u rest (map f refs) j) e (at_put (λ d. SplitBy K t c cs u d (drop_at j (map f refs))) f refs j x l g turned, refl) (λ us p. p.1)

pub absent_inner : {X : Type 0} (K : Known) (t : OneTerm) (c : Cond) (cs : Conds) (u : OneTerm) (rest : Terms) (f : X → Cond) (refs left : List X) (j : ℕ) (x : X) (old new : List Terms) → new ≡ old → x ≡ get_or refs j x → left ≡ drop_at j refs →
    (SplitBy K t c cs u (f x) (map f left) → ⊥) → Gained old new (InnerAt K t c cs u rest (map f refs) j)
absent_inner K t c cs u rest f refs left j x old new e g d n =
    gained_none old new (InnerAt K t c cs u rest (map f refs) j) e
    (λ us p. n (subst (SplitBy K t c cs u (f x)) (sym (ap (map f) d ∙ sym (drop_at-map f j refs))) (at_get (λ d. SplitBy K t c cs u d (drop_at j (map f refs))) f refs j x g p.0)))

-- what the second term's conditions give with the one at place i
pub gained_split : {X : Type 0} (K : Known) (t u : OneTerm) (rest : Terms) (f : X → Cond) (refs left others : List X) (i n : ℕ) (x : X) (cs : Conds) (old new : List Terms) → i < length refs → x ≡ get_or refs i x → left ≡ drop_at i refs → cs ≡ conds_from (map f left) → n ≡ length others →
    Gained old new (Upto (InnerAt K t (f x) cs u rest (map f others)) n) → Gained old new (SplitAt K t (map f refs) u (map f others) rest i)
gained_split K t u rest f refs left others i n x cs old new l g d c len gained =
    gained_as (Upto (InnerAt K t (f x) cs u rest (map f others)) n) (SplitAt K t (map f refs) u (map f others) rest i) old new (λ us. (
      λ p. at_put (Q us) f refs i x l g (turn us p),
      λ h. back us (at_get (Q us) f refs i x g h),
    )) gained
  where
    Q : Terms → Cond → Type 0
    Q us c = Upto (InnerAt K t c (conds_from (drop_at i (map f refs))) u rest (map f others)) (length (map f others)) us

    same : cs ≡ conds_from (drop_at i (map f refs))
    same = c ∙ ap conds_from (ap (map f) d ∙ sym (drop_at-map f i refs))

    many : n ≡ length (map f others)
    many = len ∙ sym (length_behind f others (map f others) refl)

    turn : (us : Terms) → Upto (InnerAt K t (f x) cs u rest (map f others)) n us → Q us (f x)
    turn us p = subst (λ z. Upto (InnerAt K t (f x) z u rest (map f others)) (length (map f others)) us) same (subst (λ z. Upto (InnerAt K t (f x) cs u rest (map f others)) z us) many p)

    back : (us : Terms) → Q us (f x) → Upto (InnerAt K t (f x) cs u rest (map f others)) n us
    back us p = subst (λ z. Upto (InnerAt K t (f x) cs u rest (map f others)) z us) (sym many) (subst (λ z. Upto (InnerAt K t (f x) z u rest (map f others)) (length (map f others)) us) (sym same) p)

pub gained_twin : (K : Known) (nested : Bool) (t u : OneTerm) (rest vs : Terms) (old new : List Terms) → new ≡ old ++ vs ∷ [] → vs ≡ term_then t.ranges t.conds t.pieces rest → nested ≡ true → TermIs K t u → Gained old new (TwinOf K nested t u rest)
gained_twin K nested t u rest vs old new e is n same = gained_one old new vs (TwinOf K nested t u rest) e (n, same, is) (λ us p. p.2 ∙ sym is)

pub absent_twin : (K : Known) (nested : Bool) (t u : OneTerm) (rest : Terms) (old new : List Terms) → new ≡ old → ((nested ≡ true) × TermIs K t u → ⊥) → Gained old new (TwinOf K nested t u rest)
absent_twin K nested t u rest old new e none = gained_none old new (TwinOf K nested t u rest) e (λ us p. none (p.0, p.1))

-- what a later term gives, its place gives
pub gained_pair : {X : Type 0} (K : Known) (nested : Bool) (t : OneTerm) (f : X → OneTerm) (refs left : List X) (k : ℕ) (x : X) (old new : List Terms) → k < length refs → x ≡ get_or refs k x → left ≡ drop_at k refs →
    Gained old new (PairOf K nested t (f x) (terms_from (map f left))) → Gained old new (PairAt K nested t (map f refs) k)
gained_pair K nested t f refs left k x old new l g d gained =
    gained_as (λ us. P us (terms_from (map f left)) (f x)) (PairAt K nested t (map f refs) k) old new (λ us. (
      λ p. at_put (P us (terms_from (drop_at k (map f refs)))) f refs k x l g (subst (λ z. P us z (f x)) same p),
      λ h. subst (λ z. P us z (f x)) (sym same) (at_get (P us (terms_from (drop_at k (map f refs)))) f refs k x g h),
    )) gained
  where
    P : Terms → Terms → OneTerm → Type 0
    P us rest u = (SplitFrom K t u rest us ⊎ SplitFrom K u t rest us) ⊎ TwinOf K nested t u rest us

    same : terms_from (map f left) ≡ terms_from (drop_at k (map f refs))
    same = ap terms_from (ap (map f) d ∙ sym (drop_at-map f k refs))

left_is : (cs b a : Conds) (j : ℕ) → conds_from (drop_at j (conds_list cs)) ≡ conds_append b a → drop_at j (conds_list cs) ≡ conds_list (conds_append b a)
left_is cs b a j e = sym (conds_back (drop_at j (conds_list cs))) ∙ ap conds_list e

module _ (K : Known) (t u : OneTerm) (rest us : Terms) where
  abbrev Split : Type 0
  Split = (s : SplitByIn K t.ranges t.conds t.pieces u.ranges u.conds u.pieces) × (us ≡ term_then t.ranges (others s.place) t.pieces rest)

  made : (b a b' a' : Conds) (c d : Cond) → t.conds ≡ conds_append b (cond_then c a) → u.conds ≡ conds_append b' (cond_then d a') → SplitBy K t c (conds_append b a) u d (conds_list (conds_append b' a')) → us ≡ term_then t.ranges (conds_append b a) t.pieces rest → Split
  made b a b' a' (is_in e h ts) (not_in f h' vs) is is' (rows, (ks, ranges, values, conds, pieces)) gives = (
    record {
      e = e;
      h = h;
      ts = ts;
      e' = f;
      h' = h';
      us = vs;
      place = record { before = b; after = a; is = is };
      place' = record { before = b'; after = a'; is = is' };
      ks = ks;
      values = values;
      rows = rows;
      same = record { ranges = ranges; conds = conds; pieces = pieces };
    },
    gives,
  )
  made b a b' a' (is_in e h ts) (Pred p x) is is' s gives = absurd s
  made b a b' a' (is_in e h ts) (Join x y) is is' s gives = absurd s
  made b a b' a' (is_in e h ts) (is_in x g vs) is is' s gives = absurd s
  made b a b' a' (Pred p x) d is is' s gives = absurd s
  made b a b' a' (Join x y) d is is' s gives = absurd s
  made b a b' a' (not_in x g vs) d is is' s gives = absurd s

  split_to : SplitFrom K t u rest us → Split
  split_to (i, l, at) =
      let p = cond_split t.conds i (λ c. Upto (InnerAt K t c (conds_from (drop_at i (conds_list t.conds))) u rest (conds_list u.conds)) (length (conds_list u.conds)) us) at in
      let inner = p.4 in
      let j = inner.0 in
      let q = cond_split u.conds j (λ d. SplitBy K t p.1 (conds_from (drop_at i (conds_list t.conds))) u d (drop_at j (conds_list u.conds))) inner.2.0 in
      made p.0 p.2 q.0 q.2 p.1 q.1 p.3 q.3
      (subst (λ z. SplitBy K t p.1 z u q.1 (conds_list (conds_append q.0 q.2))) p.6 (subst (λ z. SplitBy K t p.1 (conds_from (drop_at i (conds_list t.conds))) u q.1 z) (left_is u.conds q.0 q.2 j q.6) q.4))
      (inner.2.1 ∙ ap (λ z. term_then t.ranges z t.pieces rest) p.6)

  split_from : Split → SplitFrom K t u rest us
  split_from (s, gives) =
      let c = is_in s.e s.h s.ts in
      let d = not_in s.e' s.h' s.us in
      let b = s.place.before in
      let a = s.place.after in
      let b' = s.place'.before in
      let a' = s.place'.after in
      let whole' = conds_append b' (cond_then d a') in
      let by : SplitBy K t c (conds_append b a) u d (conds_list (conds_append b' a')) = (s.rows, (s.ks, s.same.ranges, s.values, s.same.conds, s.same.pieces)) in
      let q = split_cond b' d a' (λ z. SplitBy K t c (conds_append b a) u z (conds_list (conds_append b' a'))) by in
      let turned = at_implies (λ z. SplitBy K t c (conds_append b a) u z (conds_list (conds_append b' a'))) (λ z. SplitBy K t c (conds_append b a) u z (drop_at q.0 (conds_list whole'))) q.0 (conds_list whole')
      (λ z h. subst (SplitBy K t c (conds_append b a) u z) (sym (left_is whole' b' a' q.0 q.4)) h) q.2 in
      let inner : Upto (InnerAt K t c (conds_append b a) u rest (conds_list u.conds)) (length (conds_list u.conds)) us =
      (q.0, subst (λ z. q.0 < length (conds_list z)) (sym s.place'.is) q.1, (subst (λ z. At (λ y. SplitBy K t c (conds_append b a) u y (drop_at q.0 (conds_list z))) q.0 (conds_list z)) (sym s.place'.is) turned, gives)) in
      let whole = conds_append b (cond_then c a) in
      let p = split_cond b c a (λ z. Upto (InnerAt K t z (conds_append b a) u rest (conds_list u.conds)) (length (conds_list u.conds)) us) inner in
      let outer = at_implies (λ z. Upto (InnerAt K t z (conds_append b a) u rest (conds_list u.conds)) (length (conds_list u.conds)) us) (λ z. Upto (InnerAt K t z (conds_from (drop_at p.0 (conds_list whole))) u rest (conds_list u.conds)) (length (conds_list u.conds)) us) p.0 (conds_list whole)
      (λ z h. subst (λ y. Upto (InnerAt K t z y u rest (conds_list u.conds)) (length (conds_list u.conds)) us) (sym p.4) h) p.2 in (
        p.0,
        subst (λ z. p.0 < length (conds_list z)) (sym s.place.is) p.1,
        subst (λ z. At (λ y. Upto (InnerAt K t y (conds_from (drop_at p.0 (conds_list z))) u rest (conds_list u.conds)) (length (conds_list u.conds)) us) p.0 (conds_list z)) (sym s.place.is) outer,
      )

module _ (K : Known) (nested : Bool) (t : OneTerm) (ts us : Terms) where
  abbrev Pair : Terms → OneTerm → Type 0
  Pair rest u = (SplitFrom K t u rest us ⊎ SplitFrom K u t rest us) ⊎ TwinOf K nested t u rest us

  to : (b a : Terms) (u : OneTerm) → ts ≡ terms_append b (term_then u.ranges u.conds u.pieces a) → Pair (terms_append b a) u → TwoStep K nested t.ranges t.conds t.pieces ts us
  to b a u is (inl (inl h)) = let s = split_to K t u (terms_append b a) us h in (u.ranges, u.conds, u.pieces, b, a, one_term t.ranges (others s.0.place) t.pieces, is, in_first s.0, s.1)
  to b a u is (inl (inr h)) = let s = split_to K u t (terms_append b a) us h in (u.ranges, u.conds, u.pieces, b, a, one_term u.ranges (others s.0.place) u.pieces, is, in_second s.0, s.1)
  to b a u is (inr (deep, same, gives)) =
      (u.ranges, u.conds, u.pieces, b, a, one_term t.ranges t.conds t.pieces, is, twin record { ks = same.0; inside = deep; same = record { ranges = same.1; conds = same.2; pieces = same.3 } }, gives)

  pair : (u : OneTerm) (rest vs : Terms) → PairRow K nested t.ranges t.conds t.pieces u.ranges u.conds u.pieces vs → us ≡ terms_append vs rest → Pair rest u
  pair u rest vs (in_first s) gives = inl (inl (split_from K t u rest us (s, gives)))
  pair u rest vs (in_second s) gives = inl (inr (split_from K u t rest us (s, gives)))
  pair u rest vs (twin s) gives = inr (s.inside, (s.ks, s.same.ranges, s.same.conds, s.same.pieces), gives)

  pub pairs_are : (n : ℕ) → length (terms_list ts) ≤ n → (Upto (PairAt K nested t (terms_list ts)) n us ↔ TwoStep K nested t.ranges t.conds t.pieces ts us)
  pairs_are n len = (
    λ (k, l, at). let s = term_split ts k (Pair (terms_from (drop_at k (terms_list ts)))) at in to s.0 s.2 s.1 s.3 (subst (λ z. Pair z s.1) s.5 s.4),
    λ (rs', cs', ps', between, after, vs, is, row, gives).
        let u : OneTerm = record { ranges = rs'; conds = cs'; pieces = ps' } in
        let whole = terms_append between (term_then rs' cs' ps' after) in
        let s = split_term between u after (Pair (terms_append between after)) (pair u (terms_append between after) vs row gives) in
        let l = subst (λ z. s.0 < length (terms_list z)) (sym is) s.1 in
        let turned = at_implies (Pair (terms_append between after)) (Pair (terms_from (drop_at s.0 (terms_list whole)))) s.0 (terms_list whole) (λ z h. subst (λ y. Pair y z) (sym s.3) h) s.2 in
        (s.0, omega (arith, l, len), subst (λ z. At (Pair (terms_from (drop_at s.0 (terms_list z)))) s.0 (terms_list z)) (sym is) turned),
  )

-- what the loops have added is what the definitions say
pub splits_turn : {X : Type 0} (K : Known) (t u : OneTerm) (rest : Terms) (f : X → Cond) (refs others : List X) (a b : List Terms) → map f refs ≡ conds_list t.conds → map f others ≡ conds_list u.conds →
    Gained a b (Upto (SplitAt K t (map f refs) u (map f others) rest) (length refs)) → Gained a b (SplitFrom K t u rest)
splits_turn K t u rest f refs others a b m n g =
    subst (λ z. Gained a b (Upto (SplitAt K t (conds_list t.conds) u (conds_list u.conds) rest) z)) (sym (length_behind f refs (conds_list t.conds) m))
    (subst (λ z. Gained a b (Upto (SplitAt K t (conds_list t.conds) u z rest) (length refs))) n (subst (λ z. Gained a b (Upto (SplitAt K t z u (map f others) rest) (length refs))) m g))

pub pairs_turn : {X : Type 0} (K : Known) (nested : Bool) (t : OneTerm) (ts : Terms) (f : X → OneTerm) (refs : List X) (a b : List Terms) → map f refs ≡ terms_list ts →
    Gained a b (Upto (PairAt K nested t (map f refs)) (length refs)) → Gained a b (TwoStep K nested t.ranges t.conds t.pieces ts)
pairs_turn K nested t ts f refs a b m g =
    let l = length_behind f refs (terms_list ts) m in
    gained_as (Upto (PairAt K nested t (terms_list ts)) (length refs)) (TwoStep K nested t.ranges t.conds t.pieces ts) a b (λ us. pairs_are K nested t ts us (length refs) (omega (arith, l)))
    (subst (λ z. Gained a b (Upto (PairAt K nested t z) (length refs))) m g)
