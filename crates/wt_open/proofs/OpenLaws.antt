-- Opening a variable by its place, and as a row of the table.
use Rattle.std.proofs.Common.{ℕ, zero, suc, ◌<◌, ◌≤◌, ◌≡◌, ◌↔◌, Bool, List, [], ◌∷◌, ◌++◌, map, take, drop, length, Result, Ok, Err, refl, sym, ap, ◌∙◌, subst, arith}
use Rattle.std.specs.Prelude.{OnOk}
use Rattle.wt_bag.specs.Choices.{At}
use Rattle.wt_symbol.specs.declared.head.Part.{Part}
use Rattle.wt_form.specs.declared.form.Expr.{Expr}
use Rattle.wt_form.specs.Trees.{Terms, no_terms, term_then, Ranges, no_ranges, range_then, FormRange, Rel, distinct_of, Conds}
use Rattle.wt_form.specs.Parts.{one_term, ranges_append, ranges_count, ranges_list, conds_append, conds_map, conds_up}
use Rattle.wt_form.specs.Known.{Known}
use Rattle.wt_form.specs.Opening.{Opening, Opened}
use Rattle.wt_places.specs.Lists.{ranges_from}
use Rattle.wt_places.specs.Gained.{Gained, Upto, AtPlace}
use Rattle.wt_places.proofs.GainedLaws.{gained_one, gained_as, length_behind}
use Rattle.wt_places.proofs.PlaceLaws.{at_implies}
use Rattle.wt_places.proofs.Splits.{ranges_there}
use Rattle.wt_opening.specs.Opened.{opened_or_same}
use Rattle.wt_opening.proofs.OpenedLaws.{conds_to, conds_from_can, pieces_to, pieces_from_can}
use Rattle.wt_open.specs.Opens.{opening_of, opened_term, TermCanOpen, OpensBy, MayOpen, OpensTerm, OpensTerms, OpensAt}

pub count_length : (rs : Ranges) → length (ranges_list rs) ≡ ranges_count rs
count_length no_ranges = refl
count_length (range_then r rs) = let e = count_length rs in let g : length (ranges_list (range_then r rs)) ≡ suc (length (ranges_list rs)) = refl in omega (arith, e, g)

-- places of ranges are ranges with those around them
range_parts : (rs : Ranges) (j : ℕ) (Q : FormRange → Type 0) → At Q j (ranges_list rs) →
    (b : Ranges) × (r : FormRange) × (a : Ranges) × (rs ≡ ranges_append b (range_then r a)) × Q r × (ranges_list b ≡ take j (ranges_list rs)) × (ranges_list a ≡ drop (suc j) (ranges_list rs))
range_parts no_ranges j Q h = absurd h
range_parts (range_then r rs) zero Q h = (no_ranges, r, rs, refl, h, refl, refl)
range_parts (range_then r rs) (suc j) Q h = let p = range_parts rs j Q h in (range_then r p.0, p.1, p.2, ap (range_then r) p.3, p.4, ap (λ l. r ∷ l) p.5, p.6)

parts_range : (b : Ranges) (r : FormRange) (a : Ranges) (Q : FormRange → Type 0) → Q r →
    (j : ℕ) × (j < length (ranges_list (ranges_append b (range_then r a)))) × At Q j (ranges_list (ranges_append b (range_then r a)))
    × (take j (ranges_list (ranges_append b (range_then r a))) ≡ ranges_list b) × (drop (suc j) (ranges_list (ranges_append b (range_then r a))) ≡ ranges_list a)
parts_range no_ranges r a Q q = (0, omega arith, q, refl, refl)
parts_range (range_then s b) r a Q q = let p = parts_range b r a Q q in let l = p.1 in (suc p.0, omega (arith, l), p.2, ap (λ z. s ∷ z) p.3, p.4)

pub range_places : (P : List FormRange → FormRange → List FormRange → Terms → Type 0) (rs : Ranges) (n : ℕ) → length (ranges_list rs) ≤ n → (us : Terms) →
    (Upto (AtPlace P (ranges_list rs)) n us ↔ ((b : Ranges) × (r : FormRange) × (a : Ranges) × (rs ≡ ranges_append b (range_then r a)) × P (ranges_list b) r (ranges_list a) us))
range_places P rs n len us = (there, back)
  where
    there : Upto (AtPlace P (ranges_list rs)) n us → (b : Ranges) × (r : FormRange) × (a : Ranges) × (rs ≡ ranges_append b (range_then r a)) × P (ranges_list b) r (ranges_list a) us
    there (j, l, at) =
        let s = range_parts rs j (λ r. P (take j (ranges_list rs)) r (drop (suc j) (ranges_list rs)) us) at in
        (s.0, s.1, s.2, s.3, subst (λ z. P z s.1 (ranges_list s.2) us) (sym s.5) (subst (λ z. P (take j (ranges_list rs)) s.1 z us) (sym s.6) s.4))

    back : ((b : Ranges) × (r : FormRange) × (a : Ranges) × (rs ≡ ranges_append b (range_then r a)) × P (ranges_list b) r (ranges_list a) us) → Upto (AtPlace P (ranges_list rs)) n us
    back (b, r, a, is, p) =
        let whole = ranges_append b (range_then r a) in
        let s = parts_range b r a (λ r. P (ranges_list b) r (ranges_list a) us) p in
        let l = subst (λ z. s.0 < length (ranges_list z)) (sym is) s.1 in
        let turn : (x : FormRange) → P (ranges_list b) x (ranges_list a) us → P (take s.0 (ranges_list whole)) x (drop (suc s.0) (ranges_list whole)) us = λ x q. subst (λ z. P z x (drop (suc s.0) (ranges_list whole)) us) (sym s.3) (subst (λ z. P (ranges_list b) x z us) (sym s.4) q) in
        (s.0, omega (arith, l, len), subst (λ z. At (λ x. P (take s.0 (ranges_list z)) x (drop (suc s.0) (ranges_list z)) us) s.0 (ranges_list z)) (sym is) (at_implies (λ x. P (ranges_list b) x (ranges_list a) us) (λ x. P (take s.0 (ranges_list whole)) x (drop (suc s.0) (ranges_list whole)) us) s.0 (ranges_list whole) turn s.2))

module _ (K : Known) (nested : Bool) (rs : Ranges) (cs : Conds) (ps : List Expr) (us : Terms) where
  -- the term, its ranges put together
  term_is : (o : Opening) (b inner a : Ranges) (conds : Conds) →
      opened_term o (ranges_list b) inner conds (ranges_list a) cs ps ≡ one_term (ranges_append b (ranges_append inner a)) (conds_append (conds_map (opened_or_same o) cs) (conds_up o.at conds)) (map (opened_or_same o) ps)
  term_is o b inner a conds =
      ap (λ z. one_term (ranges_append z (ranges_append inner (ranges_from (ranges_list a)))) (conds_append (conds_map (opened_or_same o) cs) (conds_up o.at conds)) (map (opened_or_same o) ps)) (ranges_there b)
      ∙ ap (λ z. one_term (ranges_append b (ranges_append inner z)) (conds_append (conds_map (opened_or_same o) cs) (conds_up o.at conds)) (map (opened_or_same o) ps)) (ranges_there a)

  opened_one : (b : Ranges) (head : List Part) (inner : Ranges) (conds : Conds) (pieces : List Expr) (a : Ranges) → rs ≡ ranges_append b (range_then (distinct_of head (one_term inner conds pieces)) a) → OpensTerm K nested cs ps (ranges_list b) head inner conds pieces (ranges_list a) us → Opened K nested rs cs ps us
  opened_one b head inner conds pieces a is (may, by) =
      let o : Opening = opening_of (ranges_count b) head inner pieces in
      let turned : OpensBy o (ranges_list b) inner conds (ranges_list a) cs ps us = subst (λ n. OpensBy (opening_of n head inner pieces) (ranges_list b) inner conds (ranges_list a) cs ps us) (count_length b) by in
      record {
        before = b;
        after = a;
        head = head;
        inner = inner;
        conds = conds;
        pieces = pieces;
        is = is;
        allowed = may;
        cs' = conds_map (opened_or_same o) cs;
        ps' = map (opened_or_same o) ps;
        conds_opened = conds_from_can o cs turned.0.0;
        pieces_opened = pieces_from_can o ps turned.0.1;
        gives = turned.1 ∙ term_is o b inner a conds;
      }

  opened_rows : (b : Ranges) (head : List Part) (ts : Terms) (a : Ranges) → rs ≡ ranges_append b (range_then (distinct_of head ts) a) → OpensTerms K nested cs ps (ranges_list b) head ts (ranges_list a) us → Opened K nested rs cs ps us
  opened_rows b head no_terms a is h = absurd h
  opened_rows b head (term_then inner conds pieces no_terms) a is h = opened_one b head inner conds pieces a is h
  opened_rows b head (term_then inner conds pieces (term_then rs' cs' ps' ts)) a is h = absurd h

  opened_at : (b : Ranges) (r : FormRange) (a : Ranges) → rs ≡ ranges_append b (range_then r a) → OpensAt K nested cs ps (ranges_list b) r (ranges_list a) us → Opened K nested rs cs ps us
  opened_at b (Rel r) a is h = absurd h
  opened_at b (distinct_of head ts) a is h = opened_rows b head ts a is h

  opens : (h : Opened K nested rs cs ps us) → OpensTerm K nested cs ps (ranges_list h.before) h.head h.inner h.conds h.pieces (ranges_list h.after) us
  opens h =
      let o : Opening = opening_of (ranges_count h.before) h.head h.inner h.pieces in
      let c = conds_to o cs h.cs' h.conds_opened in
      let p = pieces_to o ps h.ps' h.pieces_opened in
      let gives : us ≡ opened_term o (ranges_list h.before) h.inner h.conds (ranges_list h.after) cs ps =
      h.gives ∙ ap (λ z. one_term (ranges_append h.before (ranges_append h.inner h.after)) (conds_append z (conds_up (ranges_count h.before) h.conds)) h.ps') c.1
      ∙ ap (λ z. one_term (ranges_append h.before (ranges_append h.inner h.after)) (conds_append (conds_map (opened_or_same o) cs) (conds_up (ranges_count h.before) h.conds)) z) p.1 ∙ sym (term_is o h.before h.inner h.after h.conds) in
      let by : OpensBy o (ranges_list h.before) h.inner h.conds (ranges_list h.after) cs ps us = ((c.0, p.0), gives) in
      (h.allowed, subst (λ n. OpensBy (opening_of n h.head h.inner h.pieces) (ranges_list h.before) h.inner h.conds (ranges_list h.after) cs ps us) (sym (count_length h.before)) by)

  pub opened_is : (n : ℕ) → length (ranges_list rs) ≤ n → (Upto (AtPlace (OpensAt K nested cs ps) (ranges_list rs)) n us ↔ Opened K nested rs cs ps us)
  opened_is n l =
      let places = range_places (OpensAt K nested cs ps) rs n l us in
      (λ u. let s = places.0 u in opened_at s.0 s.1 s.2 s.3 s.4, λ h. places.1 (h.before, distinct_of h.head (one_term h.inner h.conds h.pieces), h.after, h.is, opens h))

-- what the loop has added is what the row gives
pub opened_turn : {X : Type 0} (K : Known) (nested : Bool) (rs : Ranges) (cs : Conds) (ps : List Expr) (f : X → FormRange) (refs : List X) (a b : List Terms) → map f refs ≡ ranges_list rs →
    Gained a b (Upto (AtPlace (OpensAt K nested cs ps) (map f refs)) (length refs)) → Gained a b (Opened K nested rs cs ps)
opened_turn K nested rs cs ps f refs a b m g =
    let l = length_behind f refs (ranges_list rs) m in
    gained_as (Upto (AtPlace (OpensAt K nested cs ps) (ranges_list rs)) (length refs)) (Opened K nested rs cs ps) a b (λ us. opened_is K nested rs cs ps us (length refs) (omega (arith, l)))
    (subst (λ z. Gained a b (Upto (AtPlace (OpensAt K nested cs ps) z) (length refs))) m g)

-- the term is added where each of its expressions can be opened
pub gained_by : (o : Opening) (rb : List FormRange) (inner : Ranges) (conds : Conds) (ra : List FormRange) (cs : Conds) (ps : List Expr) (old new : List Terms) → new ≡ old ++ opened_term o rb inner conds ra cs ps ∷ [] → TermCanOpen o cs ps → Gained old new (OpensBy o rb inner conds ra cs ps)
gained_by o rb inner conds ra cs ps old new e can = gained_one old new (opened_term o rb inner conds ra cs ps) (OpensBy o rb inner conds ra cs ps) e (can, refl) (λ us p. p.1)

-- and where it may be opened
pub gained_term : (K : Known) (nested : Bool) (cs : Conds) (ps : List Expr) (rb : List FormRange) (head : List Part) (inner : Ranges) (conds : Conds) (pieces : List Expr) (ra : List FormRange) (old new : List Terms) → MayOpen K nested inner conds pieces →
    Gained old new (OpensBy (opening_of (length rb) head inner pieces) rb inner conds ra cs ps) → Gained old new (OpensTerm K nested cs ps rb head inner conds pieces ra)
gained_term K nested cs ps rb head inner conds pieces ra old new m = gained_as (OpensBy (opening_of (length rb) head inner pieces) rb inner conds ra cs ps) (OpensTerm K nested cs ps rb head inner conds pieces ra) old new (λ us. (λ p. (m, p), λ q. q.1))

pub same_length : {X Y : Type 0} (f : X → Y) (xs : List X) → length (map f xs) ≡ length xs
same_length f [] = refl
same_length f (x ∷ xs) = ap suc (same_length f xs)

pub on_ok : {A E : Type 0} (r : Result A E) (P Q : Type 0) → (P → Q) → OnOk r P → OnOk r Q
on_ok (Ok a) P Q f h = f h
on_ok (Err e) P Q f h = tt

pub length_taken : {X : Type 0} (j : ℕ) (xs : List X) → j < length xs → length (take j xs) ≡ j
length_taken zero xs l = refl
length_taken (suc j) [] l = let bad : ⊥ = omega arith in absurd bad
length_taken (suc j) (x ∷ xs) l = ap suc (length_taken j xs (omega (arith, l)))
