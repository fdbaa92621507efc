-- Dropping by places, and the rows of the table that drop.
use Rattle.std.proofs.Common.{ℕ, zero, suc, ◌<◌, ◌≡◌, ◌⊎◌, ◌↔◌, inl, inr, true, List, [], ◌∷◌, ◌++◌, map, get_or, length, refl, sym, ap, ◌∙◌, subst, arith}
use Rattle.wt_bag.specs.Choices.{At, Has, drop_at}
use Rattle.wt_symbol.specs.declared.head.PartCols.TheVariants.{Whole, List as Listed}
use Rattle.wt_form.specs.declared.form.Expr.{Expr}
use Rattle.wt_form.specs.declared.form.Expr.TheVariants.{Of, Null as NullOf}
use Rattle.wt_form.specs.Trees.{Terms, no_terms, Ranges, FormRange, Conds, no_conds, cond_then, Cond, Pred, Join, is_in, not_in}
use Rattle.wt_form.specs.Parts.{one_term, conds_append, ranges_list, conds_list}
use Rattle.wt_form.specs.Known.{Known}
use Rattle.wt_form.specs.Congruent.{expr_same, CondSame}
use Rattle.wt_form.specs.Facts.{Joins}
use Rattle.wt_form.specs.Places.{others, itself}
use Rattle.wt_form.specs.Drops.{Repeated, NeverNull, ByReference, ByJoin, ComparesNull}
use Rattle.wt_form.specs.Views.{OneTerm}
use Rattle.wt_not_null.specs.NeverNull.{IsNeverNull}
use Rattle.wt_congruent.proofs.Pairing.{at_put, at_get, drop_at-map}
use Rattle.wt_places.specs.Lists.{conds_from}
use Rattle.wt_places.specs.Gained.{Gained, Upto, WithoutAt}
use Rattle.wt_places.proofs.GainedLaws.{gained_one, gained_none, gained_seq, gained_whole, length_behind}
use Rattle.wt_places.proofs.Splits.{conds_back, conds_append_assoc, cond_split, split_cond}
use Rattle.wt_drops.specs.Truths.{SomeSame, LeafSame, CondJoins, SomeJoins, InIsTrue, CondTrue, CondFalse, Denied}
use Rattle.wt_drops.specs.Drops.{Goes, IsFalse, FallsAt, Dropped}

-- no term is added, or nothing is
pub gained_fallen : {X : Type 0} (K : Known) (ks : List ℕ) (rs : List FormRange) (f : X → Cond) (refs others : List X) (j : ℕ) (x : X) (old new : List Terms) → new ≡ old ++ no_terms ∷ [] → j < length refs → x ≡ get_or refs j x → others ≡ drop_at j refs →
    CondFalse K ks rs (map f others) (f x) ⊎ Denied K ks (map f others) (f x) → Gained old new (FallsAt K ks rs (map f refs) j)
gained_fallen K ks rs f refs others j x old new e l g o h =
    let is : IsFalse K ks rs (map f refs) j (f x) = subst (λ z. CondFalse K ks rs z (f x) ⊎ Denied K ks z (f x)) (ap (map f) o ∙ sym (drop_at-map f j refs)) h in
    gained_one old new no_terms (FallsAt K ks rs (map f refs) j) e (at_put (IsFalse K ks rs (map f refs) j) f refs j x l g is, refl) (λ us p. p.1)

pub absent_fallen : {X : Type 0} (K : Known) (ks : List ℕ) (rs : List FormRange) (f : X → Cond) (refs others : List X) (j : ℕ) (x : X) (old new : List Terms) → new ≡ old → x ≡ get_or refs j x → others ≡ drop_at j refs →
    (CondFalse K ks rs (map f others) (f x) ⊎ Denied K ks (map f others) (f x) → ⊥) → Gained old new (FallsAt K ks rs (map f refs) j)
absent_fallen K ks rs f refs others j x old new e g o n =
    gained_none old new (FallsAt K ks rs (map f refs) j) e
    (λ us p. n (subst (λ z. CondFalse K ks rs z (f x) ⊎ Denied K ks z (f x)) (sym (ap (map f) o ∙ sym (drop_at-map f j refs))) (at_get (IsFalse K ks rs (map f refs) j) f refs j x g p.0)))

at_implies : {X : Type 0} (P Q : X → Type 0) (j : ℕ) (xs : List X) → ((x : X) → P x → Q x) → At P j xs → At Q j xs
at_implies P Q j [] f h = absurd h
at_implies P Q zero (x ∷ xs) f h = f x h
at_implies P Q (suc j) (x ∷ xs) f h = at_implies P Q j xs f h

-- what is never NULL, by lists and by conditions
never_to : (K : Known) (rs : Ranges) (cs : Conds) (x : Expr) → IsNeverNull K (ranges_list rs) (conds_list cs) x → NeverNull K rs cs x
never_to K rs cs (Of v i (Listed c)) h = h
never_to K rs cs (Of v i Whole) h = absurd h
never_to K rs cs (NullOf r c) h = absurd h

never_from : (K : Known) (rs : Ranges) (cs : Conds) (x : Expr) → NeverNull K rs cs x → IsNeverNull K (ranges_list rs) (conds_list cs) x
never_from K rs cs (Of v i (Listed c)) h = h
never_from K rs cs (Of v i Whole) h = absurd h
never_from K rs cs (NullOf r c) h = absurd h

-- a Join of the one side with the other
joins_to : (K : Known) (ks : List ℕ) (rs : List FormRange) (e : Expr) (s b : ℕ) (q : Cond) → CondJoins K ks rs e s b q →
    (e' : Expr) × (y : ℕ) × (b' : ℕ) × Joins e' (Of y 0 (Listed b')) q × (expr_same K ks e e' ≡ true) × (K.attr b' b ≡ true) × LeafSame K rs y s
joins_to K ks rs e s b (Join x y) (inl h) = (x, h.0, h.1, inl (refl, h.2), h.3.0, h.3.1, h.3.2)
joins_to K ks rs e s b (Join x y) (inr h) = (y, h.0, h.1, inr (h.2, refl), h.3.0, h.3.1, h.3.2)
joins_to K ks rs e s b (Pred p x) h = absurd h
joins_to K ks rs e s b (is_in x g ts) h = absurd h
joins_to K ks rs e s b (not_in x g ts) h = absurd h

joins_from : (K : Known) (ks : List ℕ) (rs : List FormRange) (e e' : Expr) (s b y b' : ℕ) (q : Cond) → Joins e' (Of y 0 (Listed b')) q → expr_same K ks e e' ≡ true → K.attr b' b ≡ true → LeafSame K rs y s → CondJoins K ks rs e s b q
joins_from K ks rs e e' s b y b' (Join u v) (inl h) same list leaf = inl (y, b', h.1, (subst (λ z. expr_same K ks e z ≡ true) (sym h.0) same, list, leaf))
joins_from K ks rs e e' s b y b' (Join u v) (inr h) same list leaf = inr (y, b', h.0, (subst (λ z. expr_same K ks e z ≡ true) (sym h.1) same, list, leaf))
joins_from K ks rs e e' s b y b' (Pred p x) h same list leaf = absurd h
joins_from K ks rs e e' s b y b' (is_in x g ts) h same list leaf = absurd h
joins_from K ks rs e e' s b y b' (not_in x g ts) h same list leaf = absurd h

some_to : (K : Known) (ks : List ℕ) (rs : List FormRange) (e : Expr) (s b : ℕ) (cs : List Cond) → SomeJoins K ks rs e s b cs → (q : Cond) × Has q cs × CondJoins K ks rs e s b q
some_to K ks rs e s b [] h = absurd h
some_to K ks rs e s b (q ∷ cs) (inl h) = (q, inl refl, h)
some_to K ks rs e s b (q ∷ cs) (inr h) = let r = some_to K ks rs e s b cs h in (r.0, inr r.1, r.2)

some_from : (K : Known) (ks : List ℕ) (rs : List FormRange) (e : Expr) (s b : ℕ) (cs : List Cond) (q : Cond) → Has q cs → CondJoins K ks rs e s b q → SomeJoins K ks rs e s b cs
some_from K ks rs e s b [] q h j = absurd h
some_from K ks rs e s b (p ∷ cs) q (inl g) j = inl (subst (CondJoins K ks rs e s b) g j)
some_from K ks rs e s b (p ∷ cs) q (inr h) j = inr (some_from K ks rs e s b cs q h j)

some_same_has : (K : Known) (ks : List ℕ) (cs : List Cond) (c : Cond) → SomeSame K ks cs c → (d : Cond) × Has d cs × CondSame K ks d c
some_same_has K ks [] c h = absurd h
some_same_has K ks (d ∷ cs) c (inl h) = (d, inl refl, h)
some_same_has K ks (d ∷ cs) c (inr h) = let r = some_same_has K ks cs c h in (r.0, inr r.1, r.2)

has_some_same : (K : Known) (ks : List ℕ) (cs : List Cond) (c d : Cond) → Has d cs → CondSame K ks d c → SomeSame K ks cs c
has_some_same K ks [] c d h s = absurd h
has_some_same K ks (p ∷ cs) c d (inl e) s = inl (subst (λ z. CondSame K ks z c) e s)
has_some_same K ks (p ∷ cs) c d (inr h) s = inr (has_some_same K ks cs c d h s)

some_split : (K : Known) (ks : List ℕ) (b : Conds) (c : Cond) → SomeSame K ks (conds_list b) c → (b1 : Conds) × (d : Cond) × (b2 : Conds) × (b ≡ conds_append b1 (cond_then d b2)) × CondSame K ks d c
some_split K ks no_conds c h = absurd h
some_split K ks (cond_then d b) c (inl s) = (no_conds, d, b, refl, s)
some_split K ks (cond_then d b) c (inr h) = let r = some_split K ks b c h in (cond_then d r.0, r.1, r.2, ap (cond_then d) r.3, r.4)

some_there : (K : Known) (ks : List ℕ) (b1 : Conds) (d : Cond) (b2 : Conds) (c : Cond) → CondSame K ks d c → SomeSame K ks (conds_list (conds_append b1 (cond_then d b2))) c
some_there K ks no_conds d b2 c s = inl s
some_there K ks (cond_then e b1) d b2 c s = inr (some_there K ks b1 d b2 c s)

has_middle : (b : Conds) (c : Cond) (a : Conds) → Has c (conds_list (conds_append b (cond_then c a)))
has_middle no_conds c a = inl refl
has_middle (cond_then d b) c a = inr (has_middle b c a)

has_split_at : (cs : Conds) (c : Cond) → Has c (conds_list cs) → (b : Conds) × (a : Conds) × (cs ≡ conds_append b (cond_then c a))
has_split_at no_conds c h = absurd h
has_split_at (cond_then d cs) c (inl e) = (no_conds, cs, ap (λ z. cond_then z cs) (sym e))
has_split_at (cond_then d cs) c (inr h) = let r = has_split_at cs c h in (cond_then d r.0, r.1, ap (cond_then d) r.2)

module _ (K : Known) (rs : Ranges) (ps : List Expr) where
  abbrev ks : List ℕ
  ks = itself rs

  abbrev L : Conds → List Cond
  L cs = conds_list cs

  abbrev term : Conds → OneTerm
  term cs = record { ranges = rs; conds = cs; pieces = ps }

  -- an In is true, by lists and by conditions
  why_to : (cs : Conds) (e : Expr) (ts : Terms) → InIsTrue K ks (ranges_list rs) (conds_list cs) e ts → ByReference K rs cs e ts ⊎ ByJoin K rs cs e ts
  why_to cs e ts (s, b, is, inl (x, a, from, (r, over, refers), never)) = inl record { x = x; a = a; r = r; s = s; b = b; from = from; over = over; to = is; refers_to = refers; never_null = never_to K rs cs e never }
  why_to cs e ts (s, b, is, inr some) =
      let q = some_to K ks (ranges_list rs) e s b (conds_list cs) some in
      let j = joins_to K ks (ranges_list rs) e s b q.0 q.2 in
      inr record { e' = j.0; y = j.1; b = j.2; r = j.6.0; s = s; b' = b; join = q.0; there = q.1; joins = j.3; same = j.4; over = j.6.1; to = is; leaf = j.6.2; list = j.5 }

  why_from : (cs : Conds) (e : Expr) (ts : Terms) → ByReference K rs cs e ts ⊎ ByJoin K rs cs e ts → InIsTrue K ks (ranges_list rs) (conds_list cs) e ts
  why_from cs e ts (inl h) = (h.s, h.b, h.to, inl (h.x, h.a, h.from, (h.r, h.over, h.refers_to), never_from K rs cs e h.never_null))
  why_from cs e ts (inr h) = (h.s, h.b', h.to, inr (some_from K ks (ranges_list rs) e h.s h.b' (conds_list cs) h.join h.there (joins_from K ks (ranges_list rs) e h.e' h.s h.b' h.y h.b h.join h.joins h.same h.list (h.r, h.over, h.leaf))))

  -- a condition that is true beside the others goes
  true_row : (cs b a : Conds) (c : Cond) (us : Terms) → cs ≡ conds_append b (cond_then c a) → CondTrue K ks (ranges_list rs) (conds_list (conds_append b a)) c → us ≡ one_term rs (conds_append b a) ps → Dropped K rs cs ps us
  true_row cs b a (Pred p x) us is h gives = absurd h
  true_row cs b a (Join x y) us is h gives =
      inr (inl record { x = x; y = y; place = record { before = b; after = a; is = is }; same = h.0; never_null = never_to K rs (conds_append b a) x h.1; gives = gives })
  true_row cs b a (is_in e g ts) us is h gives =
      inr (inr (inl record { e = e; h = g; ts = ts; place = record { before = b; after = a; is = is }; why = why_to (conds_append b a) e ts h; gives = gives }))
  true_row cs b a (not_in e g ts) us is h gives =
      inr (inr (inr (inr (inr record { e = e; h = g; ts = ts; place = record { before = b; after = a; is = is }; null = h; gives = gives }))))

  -- one that is the same as an earlier one goes
  same_row : (cs b a : Conds) (c : Cond) (us : Terms) → cs ≡ conds_append b (cond_then c a) → SomeSame K ks (conds_list b) c → us ≡ one_term rs (conds_append b a) ps → Dropped K rs cs ps us
  same_row cs b a c us is h gives =
      let r = some_split K ks b c h in
      inl record {
        before = r.0;
        between = r.2;
        after = a;
        earlier = r.1;
        later = c;
        is = is ∙ ap (λ z. conds_append z (cond_then c a)) r.3 ∙ conds_append_assoc r.0 (cond_then r.1 r.2) (cond_then c a);
        same = r.4;
        gives = gives ∙ ap (λ z. one_term rs z ps) (ap (λ z. conds_append z a) r.3 ∙ conds_append_assoc r.0 (cond_then r.1 r.2) a);
      }

  -- a term with a condition that is false falls
  false_row : (cs b a : Conds) (c : Cond) (us : Terms) → cs ≡ conds_append b (cond_then c a) → CondFalse K ks (ranges_list rs) (conds_list (conds_append b a)) c → us ≡ no_terms → Dropped K rs cs ps us
  false_row cs b a (Pred p x) us is h gives = absurd h
  false_row cs b a (Join x y) us is h gives =
      inr (inr (inr (inr (inl record { c = Join x y; there = subst (λ z. Has (Join x y) (conds_list z)) (sym is) (has_middle b (Join x y) a); null = h; gives = gives }))))
  false_row cs b a (is_in e g ts) us is h gives =
      inr (inr (inr (inr (inl record { c = is_in e g ts; there = subst (λ z. Has (is_in e g ts) (conds_list z)) (sym is) (has_middle b (is_in e g ts) a); null = h; gives = gives }))))
  false_row cs b a (not_in e g ts) us is h gives =
      inr (inr (inr (inl record { e = e; h = g; ts = ts; place = record { before = b; after = a; is = is }; why = inr (why_to (conds_append b a) e ts h); gives = gives })))

  denied_row : (cs b a : Conds) (c : Cond) (us : Terms) → cs ≡ conds_append b (cond_then c a) → Denied K ks (conds_list (conds_append b a)) c → us ≡ no_terms → Dropped K rs cs ps us
  denied_row cs b a (Pred p x) us is h gives = absurd h
  denied_row cs b a (Join x y) us is h gives = absurd h
  denied_row cs b a (is_in e g ts) us is h gives = absurd h
  denied_row cs b a (not_in e g ts) us is h gives =
      inr (inr (inr (inl record { e = e; h = g; ts = ts; place = record { before = b; after = a; is = is }; why = inl (some_same_has K ks (conds_list (conds_append b a)) (is_in e g ts) h); gives = gives })))

  -- what is left at a place
  left_is : (cs b a : Conds) (j : ℕ) → conds_from (drop_at j (conds_list cs)) ≡ conds_append b a → drop_at j (conds_list cs) ≡ conds_list (conds_append b a)
  left_is cs b a j e = sym (conds_back (drop_at j (conds_list cs))) ∙ ap conds_list e

  abbrev pub By : Conds → ℕ → Terms → Type 0
  By cs n us = Upto (WithoutAt (Goes K ks (ranges_list rs) (conds_list cs)) (term cs) (conds_list cs)) n us ⊎ Upto (FallsAt K ks (ranges_list rs) (conds_list cs)) n us

  drops_to : (cs : Conds) (n : ℕ) (us : Terms) → By cs n us → Dropped K rs cs ps us
  drops_to cs n us (inl (j, l, (at, gives))) =
      let s = cond_split cs j (Goes K ks (ranges_list rs) (conds_list cs) j) at in
      let e = left_is cs s.0 s.2 j s.6 in
      elim s.4 [
        | inl h ↦ true_row cs s.0 s.2 s.1 us s.3 (subst (λ z. CondTrue K ks (ranges_list rs) z s.1) e h) (gives ∙ ap (λ z. one_term rs z ps) s.6)
        | inr h ↦ same_row cs s.0 s.2 s.1 us s.3 (subst (λ z. SomeSame K ks z s.1) (sym s.5) h) (gives ∙ ap (λ z. one_term rs z ps) s.6)
      ]
  drops_to cs n us (inr (j, l, (at, gives))) =
      let s = cond_split cs j (IsFalse K ks (ranges_list rs) (conds_list cs) j) at in
      let e = left_is cs s.0 s.2 j s.6 in
      elim s.4 [
        | inl h ↦ false_row cs s.0 s.2 s.1 us s.3 (subst (λ z. CondFalse K ks (ranges_list rs) z s.1) e h) gives
        | inr h ↦ denied_row cs s.0 s.2 s.1 us s.3 (subst (λ z. Denied K ks z s.1) e h) gives
      ]

  -- a condition with those around it has a place
  goes_by : (cs b a : Conds) (c : Cond) (n : ℕ) (us : Terms) → length (conds_list cs) ≡ n → cs ≡ conds_append b (cond_then c a) → CondTrue K ks (ranges_list rs) (conds_list (conds_append b a)) c ⊎ SomeSame K ks (conds_list b) c →
      us ≡ one_term rs (conds_append b a) ps → By cs n us
  goes_by cs b a c n us len is h gives =
      let whole = conds_append b (cond_then c a) in
      let P : Cond → Type 0 = λ z. CondTrue K ks (ranges_list rs) (conds_list (conds_append b a)) z ⊎ SomeSame K ks (conds_list b) z in
      let s = split_cond b c a P h in
      let e = left_is whole b a s.0 s.4 in
      let turn : (x : Cond) → P x → Goes K ks (ranges_list rs) (conds_list whole) s.0 x = λ x p. elim p [
        | inl t ↦ inl (subst (λ z. CondTrue K ks (ranges_list rs) z x) (sym e) t)
        | inr t ↦ inr (subst (λ z. SomeSame K ks z x) (sym s.3) t)
      ] in
      let l = subst (λ z. s.0 < length (conds_list z)) (sym is) s.1 in
      inl (
        s.0,
        omega (arith, l, len),
        (
          subst (λ z. At (Goes K ks (ranges_list rs) (conds_list z) s.0) s.0 (conds_list z)) (sym is) (at_implies P (Goes K ks (ranges_list rs) (conds_list whole) s.0) s.0 (conds_list whole) turn s.2),
          gives ∙ ap (λ z. one_term rs z ps) (sym s.4 ∙ ap (λ z. conds_from (drop_at s.0 (conds_list z))) (sym is)),
        ),
      )

  falls_by : (cs b a : Conds) (c : Cond) (n : ℕ) (us : Terms) → length (conds_list cs) ≡ n → cs ≡ conds_append b (cond_then c a) →
      CondFalse K ks (ranges_list rs) (conds_list (conds_append b a)) c ⊎ Denied K ks (conds_list (conds_append b a)) c → us ≡ no_terms → By cs n us
  falls_by cs b a c n us len is h gives =
      let whole = conds_append b (cond_then c a) in
      let P : Cond → Type 0 = λ z. CondFalse K ks (ranges_list rs) (conds_list (conds_append b a)) z ⊎ Denied K ks (conds_list (conds_append b a)) z in
      let s = split_cond b c a P h in
      let e = left_is whole b a s.0 s.4 in
      let turn : (x : Cond) → P x → IsFalse K ks (ranges_list rs) (conds_list whole) s.0 x = λ x p. subst (λ z. CondFalse K ks (ranges_list rs) z x ⊎ Denied K ks z x) (sym e) p in
      let l = subst (λ z. s.0 < length (conds_list z)) (sym is) s.1 in
      inr (s.0, omega (arith, l, len), (subst (λ z. At (IsFalse K ks (ranges_list rs) (conds_list z) s.0) s.0 (conds_list z)) (sym is) (at_implies P (IsFalse K ks (ranges_list rs) (conds_list whole) s.0) s.0 (conds_list whole) turn s.2), gives))

  repeated_by : (cs : Conds) (n : ℕ) (us : Terms) → length (conds_list cs) ≡ n → Repeated K rs cs ps us → By cs n us
  repeated_by cs n us len r =
      let b = conds_append r.before (cond_then r.earlier r.between) in
      goes_by cs b r.after r.later n us len (r.is ∙ sym (conds_append_assoc r.before (cond_then r.earlier r.between) (cond_then r.later r.after)))
      (inr (some_there K ks r.before r.earlier r.between r.later r.same))
      (r.gives ∙ ap (λ z. one_term rs z ps) (sym (conds_append_assoc r.before (cond_then r.earlier r.between) r.after)))

  compared_by : (cs b a : Conds) (c : Cond) (n : ℕ) (us : Terms) → length (conds_list cs) ≡ n → cs ≡ conds_append b (cond_then c a) → ComparesNull c → us ≡ no_terms → By cs n us
  compared_by cs b a (Join x y) n us len is h gives = falls_by cs b a (Join x y) n us len is (inl h) gives
  compared_by cs b a (is_in e g ts) n us len is h gives = falls_by cs b a (is_in e g ts) n us len is (inl h) gives
  compared_by cs b a (Pred p x) n us len is h gives = absurd h
  compared_by cs b a (not_in e g ts) n us len is h gives = absurd h

  drops_from : (cs : Conds) (n : ℕ) (us : Terms) → length (conds_list cs) ≡ n → Dropped K rs cs ps us → By cs n us
  drops_from cs n us len (inl r) = repeated_by cs n us len r
  drops_from cs n us len (inr (inl r)) = goes_by cs r.place.before r.place.after (Join r.x r.y) n us len r.place.is (inl (r.same, never_from K rs (others r.place) r.x r.never_null)) r.gives
  drops_from cs n us len (inr (inr (inl r))) = goes_by cs r.place.before r.place.after (is_in r.e r.h r.ts) n us len r.place.is (inl (why_from (others r.place) r.e r.ts r.why)) r.gives
  drops_from cs n us len (inr (inr (inr (inl r)))) = elim r.why [
    | inl h ↦ falls_by cs r.place.before r.place.after (not_in r.e r.h r.ts) n us len r.place.is (inr (has_some_same K ks (conds_list (others r.place)) (is_in r.e r.h r.ts) h.0 h.1 h.2)) r.gives
    | inr h ↦ falls_by cs r.place.before r.place.after (not_in r.e r.h r.ts) n us len r.place.is (inl (why_from (others r.place) r.e r.ts h)) r.gives
  ]
  drops_from cs n us len (inr (inr (inr (inr (inl r))))) = let s = has_split_at cs r.c r.there in compared_by cs s.0 s.1 r.c n us len s.2 r.null r.gives
  drops_from cs n us len (inr (inr (inr (inr (inr r))))) = goes_by cs r.place.before r.place.after (not_in r.e r.h r.ts) n us len r.place.is (inl r.null) r.gives

  pub drops_are : (cs : Conds) (n : ℕ) → length (conds_list cs) ≡ n → (us : Terms) → (By cs n us ↔ Dropped K rs cs ps us)
  drops_are cs n len us = (drops_to cs n us, drops_from cs n us len)

-- what the two loops have added is what the rows give
pub drops_turn : {X : Type 0} (K : Known) (rs : Ranges) (cs : Conds) (ps : List Expr) (f : X → Cond) (ks ks' : List ℕ) (refs refs' : List X) (a b c : List Terms) → a ≡ [] → ks ≡ itself rs → map f refs ≡ conds_list cs → ks' ≡ itself rs → map f refs' ≡ conds_list cs →
    Gained a b (Upto (WithoutAt (Goes K ks (ranges_list rs) (map f refs)) (record { ranges = rs; conds = cs; pieces = ps }) (map f refs)) (length refs)) → Gained b c (Upto (FallsAt K ks' (ranges_list rs) (map f refs')) (length refs')) →
    (us : Terms) → (Has us c ↔ Dropped K rs cs ps us)
drops_turn {X = X} K rs cs ps f ks ks' refs refs' a b c e k m k' m' g h us =
    let n = length (conds_list cs) in
    let t : OneTerm = record { ranges = rs; conds = cs; pieces = ps } in
    let rl = ranges_list rs in
    let g1 = subst (λ z. Gained a b (Upto (WithoutAt (Goes K z rl (map f refs)) t (map f refs)) (length refs))) k g in
    let g2 = subst (λ z. Gained a b (Upto (WithoutAt (Goes K (itself rs) rl z) t z) (length refs))) m g1 in
    let g3 = subst (λ z. Gained a b (Upto (WithoutAt (Goes K (itself rs) rl (conds_list cs)) t (conds_list cs)) z)) (sym (length_behind f refs (conds_list cs) m)) g2 in
    let h1 = subst (λ z. Gained b c (Upto (FallsAt K z rl (map f refs')) (length refs'))) k' h in
    let h2 = subst (λ z. Gained b c (Upto (FallsAt K (itself rs) rl z) (length refs'))) m' h1 in
    let h3 = subst (λ z. Gained b c (Upto (FallsAt K (itself rs) rl (conds_list cs)) z)) (sym (length_behind f refs' (conds_list cs) m')) h2 in
    let both = gained_seq (Upto (WithoutAt (Goes K (itself rs) rl (conds_list cs)) t (conds_list cs)) n) (Upto (FallsAt K (itself rs) rl (conds_list cs)) n) a b c g3 h3 in
    let all = gained_whole (λ vs. Upto (WithoutAt (Goes K (itself rs) rl (conds_list cs)) t (conds_list cs)) n vs ⊎ Upto (FallsAt K (itself rs) rl (conds_list cs)) n vs) a c e both us in
    let same = drops_are K rs ps cs n refl us in
    (λ x. same.0 (all.0 x), λ d. all.1 (same.1 d))
