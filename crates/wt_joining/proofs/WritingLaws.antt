-- Writing one expression for another, by places and as a row of the table.
use Rattle.std.proofs.Common.{ℕ, ◌≤◌, ◌≡◌, ◌↔◌, true, List, [], ◌∷◌, ◌++◌, map, length, refl, sym, ap, ◌∙◌, subst, inl, inr, arith}
use Rattle.wt_form.specs.declared.form.Expr.{Expr}
use Rattle.wt_form.specs.Trees.{Terms, Ranges, Conds, cond_then, Cond, Pred, Join, is_in, not_in}
use Rattle.wt_form.specs.Parts.{one_term, conds_append, conds_map, conds_list}
use Rattle.wt_form.specs.Known.{Known}
use Rattle.wt_form.specs.Facts.{Joins}
use Rattle.wt_form.specs.Changes.{expr_before, put}
use Rattle.wt_form.specs.Joining.{Rewritten}
use Rattle.wt_places.specs.Lists.{conds_from}
use Rattle.wt_places.specs.Gained.{Gained, Upto, AtPlace}
use Rattle.wt_places.proofs.GainedLaws.{gained_one, gained_as, length_behind}
use Rattle.wt_places.proofs.Splits.{conds_there}
use Rattle.wt_places.proofs.PlaceLaws.{cond_places}
use Rattle.wt_joining.specs.Writing.{written, WrittenBy, WrittenAt}

-- the conditions are as the row has them
written_is : (b : Conds) (c : Cond) (a : Conds) (e old : Expr) → written (conds_list b) c (conds_list a) e old ≡ conds_append (conds_map (put e old) b) (cond_then c (conds_map (put e old) a))
written_is b c a e old = ap (λ z. conds_append (conds_map (put e old) z) (cond_then c (conds_map (put e old) (conds_from (conds_list a))))) (conds_there b) ∙ ap (λ z. conds_append (conds_map (put e old) b) (cond_then c (conds_map (put e old) z))) (conds_there a)

module _ (K : Known) (rs : Ranges) (cs : Conds) (ps : List Expr) (us : Terms) where
  side : (b : Conds) (c : Cond) (a : Conds) (e old : Expr) → cs ≡ conds_append b (cond_then c a) → Joins e old c → WrittenBy rs cs ps (conds_list b) c (conds_list a) e old us → Rewritten K rs cs ps us
  side b c a e old is joins (before, changed, gives) = record {
    e = e;
    e' = old;
    join = c;
    place = record { before = b; after = a; is = is };
    joins = joins;
    earlier = before;
    cs' = written (conds_list b) c (conds_list a) e old;
    is = written_is b c a e old;
    changed = changed;
    gives = gives;
  }

  made : (b : Conds) (c : Cond) (a : Conds) → cs ≡ conds_append b (cond_then c a) → WrittenAt rs cs ps (conds_list b) c (conds_list a) us → Rewritten K rs cs ps us
  made b (Join x y) a is (inl h) = side b (Join x y) a x y is (inl (refl, refl)) h
  made b (Join x y) a is (inr h) = side b (Join x y) a y x is (inr (refl, refl)) h
  made b (Pred p x) a is h = absurd h
  made b (is_in x g ts) a is h = absurd h
  made b (not_in x g ts) a is h = absurd h

  at_sides : (b : Conds) (c : Cond) (a : Conds) (e old : Expr) → Joins e old c → WrittenBy rs cs ps (conds_list b) c (conds_list a) e old us → WrittenAt rs cs ps (conds_list b) c (conds_list a) us
  at_sides b (Join x y) a e old (inl (p, q)) h = inl (subst (λ z. WrittenBy rs cs ps (conds_list b) (Join x y) (conds_list a) z y us) (sym p) (subst (λ z. WrittenBy rs cs ps (conds_list b) (Join x y) (conds_list a) e z us) (sym q) h))
  at_sides b (Join x y) a e old (inr (p, q)) h = inr (subst (λ z. WrittenBy rs cs ps (conds_list b) (Join x y) (conds_list a) z x us) (sym q) (subst (λ z. WrittenBy rs cs ps (conds_list b) (Join x y) (conds_list a) e z us) (sym p) h))
  at_sides b (Pred p x) a e old j h = absurd j
  at_sides b (is_in x g ts) a e old j h = absurd j
  at_sides b (not_in x g ts) a e old j h = absurd j

  back : (r : Rewritten K rs cs ps us) → WrittenAt rs cs ps (conds_list r.place.before) r.join (conds_list r.place.after) us
  back r =
      let e : r.cs' ≡ written (conds_list r.place.before) r.join (conds_list r.place.after) r.e r.e' = r.is ∙ sym (written_is r.place.before r.join r.place.after r.e r.e') in
      at_sides r.place.before r.join r.place.after r.e r.e' r.joins (r.earlier, subst (λ z. (z ≡ cs) × (map (put r.e r.e') ps ≡ ps) → ⊥) e r.changed, r.gives ∙ ap (λ z. one_term rs z (map (put r.e r.e') ps)) e)

  pub rewritten_is : (n : ℕ) → length (conds_list cs) ≤ n → (Upto (AtPlace (WrittenAt rs cs ps) (conds_list cs)) n us ↔ Rewritten K rs cs ps us)
  rewritten_is n l =
      let places = cond_places (WrittenAt rs cs ps) cs n l us in
      (λ u. let s = places.0 u in made s.0 s.1 s.2 s.3 s.4, λ r. places.1 (r.place.before, r.join, r.place.after, r.place.is, back r))

-- the term is added where it is changed
pub gained_written : (rs : Ranges) (cs : Conds) (ps : List Expr) (cb : List Cond) (c : Cond) (ca : List Cond) (e old : Expr) (xs ys : List Terms) → ys ≡ xs ++ one_term rs (written cb c ca e old) (map (put e old) ps) ∷ [] → expr_before e old ≡ true →
    ((written cb c ca e old ≡ cs) × (map (put e old) ps ≡ ps) → ⊥) → Gained xs ys (WrittenBy rs cs ps cb c ca e old)
gained_written rs cs ps cb c ca e old xs ys n before changed = gained_one xs ys (one_term rs (written cb c ca e old) (map (put e old) ps)) (WrittenBy rs cs ps cb c ca e old) n (before, changed, refl) (λ us p. p.2)

-- what the loop has added is what the row gives
pub rewritten_turn : {X : Type 0} (K : Known) (rs : Ranges) (cs : Conds) (ps : List Expr) (f : X → Cond) (refs : List X) (a b : List Terms) → map f refs ≡ conds_list cs →
    Gained a b (Upto (AtPlace (WrittenAt rs cs ps) (map f refs)) (length refs)) → Gained a b (Rewritten K rs cs ps)
rewritten_turn K rs cs ps f refs a b m g =
    let l = length_behind f refs (conds_list cs) m in
    gained_as (Upto (AtPlace (WrittenAt rs cs ps) (conds_list cs)) (length refs)) (Rewritten K rs cs ps) a b (λ us. rewritten_is K rs cs ps us (length refs) (omega (arith, l)))
    (subst (λ z. Gained a b (Upto (AtPlace (WrittenAt rs cs ps) z) (length refs))) m g)
