-- A Join made an In, by places and as a row of the table.
use Rattle.std.proofs.Common.{ℕ, zero, suc, ◌<◌, ◌≤◌, ◌≡◌, ◌↔◌, Bool, List, [], ◌∷◌, ◌++◌, map, get_or, length, refl, sym, ap, ◌∙◌, subst, inl, inr, arith}
use Rattle.wt_bag.specs.Bags.{Each}
use Rattle.wt_bag.specs.Choices.{At, drop_at}
use Rattle.wt_symbol.specs.declared.head.Part.{Part}
use Rattle.wt_symbol.specs.declared.head.PartCols.TheVariants.{Whole, List as Listed}
use Rattle.wt_form.specs.declared.form.Expr.{Expr}
use Rattle.wt_form.specs.declared.form.Expr.TheVariants.{Of, Null as NullOf}
use Rattle.wt_form.specs.Trees.{Terms, Ranges, range_then, FormRange, Rel, distinct_of, Conds, cond_then, Cond, Pred, Join, is_in, not_in}
use Rattle.wt_form.specs.Parts.{one_term, ranges_append, conds_append, conds_map, ranges_count, ranges_list, conds_list}
use Rattle.wt_form.specs.Known.{Known}
use Rattle.wt_form.specs.Facts.{Joins}
use Rattle.wt_form.specs.Changes.{expr_down, CondAvoids}
use Rattle.wt_form.specs.Joining.{Joined, JoinToIn}
use Rattle.wt_congruent.proofs.Pairing.{at_put, at_get, drop_at-map}
use Rattle.wt_places.specs.Lists.{conds_from, ranges_from}
use Rattle.wt_places.specs.Gained.{Gained, Upto, AtPlace}
use Rattle.wt_places.proofs.GainedLaws.{gained_one, gained_none, gained_as, length_behind}
use Rattle.wt_places.proofs.Splits.{conds_there, range_split, split_range}
use Rattle.wt_places.proofs.PlaceLaws.{cond_places}
use Rattle.wt_joining.specs.ToIn.{IsElsewhere, in_term, InByRange, InNowhere, BecomesIn, InAt}
use Rattle.wt_joining.proofs.Lists.{map_append, list_append, each_both, each_parts}

-- the term as the row has it
abbrev row_term : Ranges → List Expr → ℕ → Conds → Conds → Expr → List Part → Terms → Terms
row_term left ps v b a e h ts = one_term left (conds_map (expr_down v) (conds_append b (cond_then (is_in e h ts) a))) (map (expr_down v) ps)

term_is : (left : Ranges) (rs : List FormRange) (ps : List Expr) (v : ℕ) (b a : Conds) (e : Expr) (h : List Part) (ts : Terms) → ranges_from rs ≡ left → in_term rs ps v (conds_list b) (conds_list a) e h ts ≡ row_term left ps v b a e h ts
term_is left rs ps v b a e h ts l =
    ap (λ z. one_term z (conds_append (conds_map (expr_down v) (conds_from (conds_list b))) (cond_then (is_in (expr_down v e) h ts) (conds_map (expr_down v) (conds_from (conds_list a))))) (map (expr_down v) ps)) l
    ∙ ap (λ z. one_term left z (map (expr_down v) ps))
    (ap (λ z. conds_append (conds_map (expr_down v) z) (cond_then (is_in (expr_down v e) h ts) (conds_map (expr_down v) (conds_from (conds_list a))))) (conds_there b)
    ∙ ap (λ z. conds_append (conds_map (expr_down v) b) (cond_then (is_in (expr_down v e) h ts) (conds_map (expr_down v) z))) (conds_there a)
    ∙ sym (map_append (expr_down v) b (cond_then (is_in e h ts) a)))

module _ (K : Known) (nested : Bool) (rs : Ranges) (cs : Conds) (ps : List Expr) (us : Terms) where
  -- what a side of a Join gives, variable v being that of the range
  abbrev Side : ℕ → Ranges → Conds → Cond → Conds → Expr → ℕ → List Part → Terms → Type 0
  Side v left b c a e d h ts = Joins e (Of v 0 (Listed d)) c × IsElsewhere v e (conds_list b) (conds_list a) ps × (us ≡ row_term left ps v b a e h ts)

  row : (rb : Ranges) (r : FormRange) (ra : Ranges) (b : Conds) (c : Cond) (a : Conds) (e : Expr) (d : ℕ) (h : List Part) (ts : Terms) → rs ≡ ranges_append rb (range_then r ra) → cs ≡ conds_append b (cond_then c a) →
      Joined K nested r d h ts → Side (ranges_count rb) (ranges_append rb ra) b c a e d h ts → JoinToIn K nested rs cs ps us
  row rb r ra b c a e d h ts at is joined (joins, elsewhere, gives) = record {
    range = r;
    at = record { before = rb; after = ra; is = at };
    e = e;
    b = d;
    join = c;
    place = record { before = b; after = a; is = is };
    joins = joins;
    elsewhere = (elsewhere.0, subst (Each (CondAvoids (ranges_count rb))) (sym (list_append b a)) (each_both (CondAvoids (ranges_count rb)) (conds_list b) (conds_list a) elsewhere.1 elsewhere.2), elsewhere.3);
    h = h;
    ts = ts;
    becomes = joined;
    gives = gives;
  }

  side : (b : Conds) (c : Cond) (a : Conds) (e f : Expr) → cs ≡ conds_append b (cond_then c a) → Joins e f c → BecomesIn K nested (ranges_list rs) ps (conds_list b) (conds_list a) e f us → JoinToIn K nested rs cs ps us
  side b c a e f is joins (v, d, at, (elsewhere, range)) =
      let s = range_split rs v (λ r. (h : List Part) × (ts : Terms) × Joined K nested r d h ts × (us ≡ in_term (drop_at v (ranges_list rs)) ps v (conds_list b) (conds_list a) e h ts)) range in
      let found = s.4 in
      row s.0 s.1 s.2 b c a e d found.0 found.1 s.3 is found.2
      (subst (λ w. Side w (ranges_append s.0 s.2) b c a e d found.0 found.1) (sym s.5)
      (subst (λ z. Joins e z c) at joins, elsewhere, found.3 ∙ term_is (ranges_append s.0 s.2) (drop_at v (ranges_list rs)) ps v b a e found.0 found.1 s.6))

  made : (b : Conds) (c : Cond) (a : Conds) → cs ≡ conds_append b (cond_then c a) → InAt K nested (ranges_list rs) ps (conds_list b) c (conds_list a) us → JoinToIn K nested rs cs ps us
  made b (Join x y) a is (inl h) = side b (Join x y) a x y is (inl (refl, refl)) h
  made b (Join x y) a is (inr h) = side b (Join x y) a y x is (inr (refl, refl)) h
  made b (Pred p x) a is h = absurd h
  made b (is_in x g ts) a is h = absurd h
  made b (not_in x g ts) a is h = absurd h

  at_sides : (b : Conds) (c : Cond) (a : Conds) (e f : Expr) → Joins e f c → BecomesIn K nested (ranges_list rs) ps (conds_list b) (conds_list a) e f us → InAt K nested (ranges_list rs) ps (conds_list b) c (conds_list a) us
  at_sides b (Join x y) a e f (inl (p, q)) h = inl (subst (λ z. BecomesIn K nested (ranges_list rs) ps (conds_list b) (conds_list a) z y us) (sym p) (subst (λ z. BecomesIn K nested (ranges_list rs) ps (conds_list b) (conds_list a) e z us) (sym q) h))
  at_sides b (Join x y) a e f (inr (p, q)) h = inr (subst (λ z. BecomesIn K nested (ranges_list rs) ps (conds_list b) (conds_list a) z x us) (sym q) (subst (λ z. BecomesIn K nested (ranges_list rs) ps (conds_list b) (conds_list a) e z us) (sym p) h))
  at_sides b (Pred p x) a e f j h = absurd j
  at_sides b (is_in x g ts) a e f j h = absurd j
  at_sides b (not_in x g ts) a e f j h = absurd j

  back : (r : JoinToIn K nested rs cs ps us) → InAt K nested (ranges_list rs) ps (conds_list r.place.before) r.join (conds_list r.place.after) us
  back r =
      let v = ranges_count r.at.before in
      let b = r.place.before in
      let a = r.place.after in
      let parts = each_parts (CondAvoids v) (conds_list b) (conds_list a) (subst (Each (CondAvoids v)) (list_append b a) r.elsewhere.1) in
      let whole = ranges_append r.at.before (range_then r.range r.at.after) in
      let s = split_range r.at.before r.range r.at.after
      (λ z. (h : List Part) × (ts : Terms) × Joined K nested z r.b h ts × (us ≡ row_term (ranges_append r.at.before r.at.after) ps v b a r.e h ts)) (r.h, r.ts, r.becomes, r.gives) in
      let left : ranges_from (drop_at v (ranges_list rs)) ≡ ranges_append r.at.before r.at.after = ap (λ z. ranges_from (drop_at v (ranges_list z))) r.at.is ∙ s.2 in
      let here = subst (λ z. At (λ z. (h : List Part) × (ts : Terms) × Joined K nested z r.b h ts × (us ≡ row_term (ranges_append r.at.before r.at.after) ps v b a r.e h ts)) v (ranges_list z)) (sym r.at.is) s.1 in
      at_sides b r.join a r.e (Of v 0 (Listed r.b)) r.joins (
        v,
        r.b,
        refl,
        (
          (r.elsewhere.0, parts.0, parts.1, r.elsewhere.2),
          at_turned v (ranges_list rs) (λ z h ts. Joined K nested z r.b h ts) (λ h ts. row_term (ranges_append r.at.before r.at.after) ps v b a r.e h ts) (λ h ts. in_term (drop_at v (ranges_list rs)) ps v (conds_list b) (conds_list a) r.e h ts)
              (λ h ts. sym (term_is (ranges_append r.at.before r.at.after) (drop_at v (ranges_list rs)) ps v b a r.e h ts left)) here,
        ),
      )
    where
      at_turned : (k : ℕ) (gs : List FormRange) (J : FormRange → List Part → Terms → Type 0) (F G : List Part → Terms → Terms) → ((h : List Part) (ts : Terms) → F h ts ≡ G h ts) →
          At (λ z. (h : List Part) × (ts : Terms) × J z h ts × (us ≡ F h ts)) k gs → At (λ z. (h : List Part) × (ts : Terms) × J z h ts × (us ≡ G h ts)) k gs
      at_turned k [] J F G e h = absurd h
      at_turned zero (g ∷ gs) J F G e h = (h.0, h.1, h.2, h.3 ∙ e h.0 h.1)
      at_turned (suc k) (g ∷ gs) J F G e h = at_turned k gs J F G e h

  pub in_is : (n : ℕ) → length (conds_list cs) ≤ n → (Upto (AtPlace (InAt K nested (ranges_list rs) ps) (conds_list cs)) n us ↔ JoinToIn K nested rs cs ps us)
  in_is n l =
      let places = cond_places (InAt K nested (ranges_list rs) ps) cs n l us in
      (λ u. let s = places.0 u in made s.0 s.1 s.2 s.3 s.4, λ r. places.1 (r.place.before, r.join, r.place.after, r.place.is, back r))

-- the form of a joined variable is one
pub one_joined : (K : Known) (nested : Bool) (range : FormRange) (b : ℕ) (h h' : List Part) (ts ts' : Terms) → Joined K nested range b h ts → Joined K nested range b h' ts' → (h ≡ h') × (ts ≡ ts')
one_joined K nested (Rel r) b h h' ts ts' (p, q, s) (p', q', s') = (q ∙ sym q', s ∙ sym s')
one_joined K nested (distinct_of g us) b h h' ts ts' (l, d, e, same, p, q) (l', d', e', same', p', q') = (p ∙ sym p', q ∙ sym q')

-- the term is added where the range has a form
pub gained_in : {X : Type 0} (K : Known) (nested : Bool) (f : X → FormRange) (ranges left : List X) (ps : List Expr) (v b : ℕ) (cb ca : List Cond) (e : Expr) (h : List Part) (ts : Terms) (x : X) (old new : List Terms) →
    new ≡ old ++ in_term (map f left) ps v cb ca e h ts ∷ [] → v < length ranges → x ≡ get_or ranges v x → left ≡ drop_at v ranges → Joined K nested (f x) b h ts → Gained old new (InByRange K nested (map f ranges) ps v b cb ca e)
gained_in K nested f ranges left ps v b cb ca e h ts x old new n l g d joined =
    let same : in_term (map f left) ps v cb ca e h ts ≡ in_term (drop_at v (map f ranges)) ps v cb ca e h ts = ap (λ z. in_term z ps v cb ca e h ts) (ap (map f) d ∙ sym (drop_at-map f v ranges)) in
    let P : Terms → FormRange → Type 0 = λ us range. (h : List Part) × (ts : Terms) × Joined K nested range b h ts × (us ≡ in_term (drop_at v (map f ranges)) ps v cb ca e h ts) in
    gained_one old new (in_term (map f left) ps v cb ca e h ts) (InByRange K nested (map f ranges) ps v b cb ca e) n (at_put (P (in_term (map f left) ps v cb ca e h ts)) f ranges v x l g (h, ts, joined, same))
    (λ us p.
    let q = at_get (P us) f ranges v x g p in
    let o = one_joined K nested (f x) b q.0 h q.1 ts q.2 joined in
    q.3 ∙ ap (λ z. in_term (drop_at v (map f ranges)) ps v cb ca e z q.1) o.0 ∙ ap (λ z. in_term (drop_at v (map f ranges)) ps v cb ca e h z) o.1 ∙ sym same)

pub absent_in : {X : Type 0} (K : Known) (nested : Bool) (f : X → FormRange) (ranges : List X) (ps : List Expr) (v b : ℕ) (cb ca : List Cond) (e : Expr) (x : X) (old new : List Terms) → new ≡ old → x ≡ get_or ranges v x →
    ((h : List Part) (ts : Terms) → Joined K nested (f x) b h ts → ⊥) → Gained old new (InByRange K nested (map f ranges) ps v b cb ca e)
absent_in K nested f ranges ps v b cb ca e x old new n g none =
    gained_none old new (InByRange K nested (map f ranges) ps v b cb ca e) n
    (λ us p. let q = at_get (λ range. (h : List Part) × (ts : Terms) × Joined K nested range b h ts × (us ≡ in_term (drop_at v (map f ranges)) ps v cb ca e h ts)) f ranges v x g p in none q.0 q.1 q.2)

-- the variable occurs nowhere else, or it does
pub gained_nowhere : (K : Known) (nested : Bool) (rs : List FormRange) (ps : List Expr) (v b : ℕ) (cb ca : List Cond) (e : Expr) (old new : List Terms) → IsElsewhere v e cb ca ps → Gained old new (InByRange K nested rs ps v b cb ca e) → Gained old new (InNowhere K nested rs ps v b cb ca e)
gained_nowhere K nested rs ps v b cb ca e old new h = gained_as (InByRange K nested rs ps v b cb ca e) (InNowhere K nested rs ps v b cb ca e) old new (λ us. (λ p. (h, p), λ q. q.1))

abbrev var_of : Expr → ℕ
var_of (Of v i c) = v
var_of (NullOf r c) = 0

abbrev list_of_expr : Expr → ℕ
list_of_expr (Of v i (Listed a)) = a
list_of_expr (Of v i Whole) = 0
list_of_expr (NullOf r c) = 0

pub gained_becoming : (K : Known) (nested : Bool) (rs : List FormRange) (ps : List Expr) (v b : ℕ) (cb ca : List Cond) (e f : Expr) (old new : List Terms) → f ≡ Of v 0 (Listed b) → Gained old new (InNowhere K nested rs ps v b cb ca e) → Gained old new (BecomesIn K nested rs ps cb ca e f)
gained_becoming K nested rs ps v b cb ca e f old new q = gained_as (InNowhere K nested rs ps v b cb ca e) (BecomesIn K nested rs ps cb ca e f) old new (λ us. (
  λ p. (v, b, q, p),
  λ h. let x : h.0 ≡ v = ap var_of (sym h.2 ∙ q) in let y : h.1 ≡ b = ap list_of_expr (sym h.2 ∙ q) in
      subst (λ z. InNowhere K nested rs ps v z cb ca e us) y (subst (λ z. InNowhere K nested rs ps z h.1 cb ca e us) x h.3),
))

-- what the loop has added is what the row gives
pub in_turn : {X : Type 0} (K : Known) (nested : Bool) (rs : Ranges) (cs : Conds) (ps : List Expr) (f : X → Cond) (refs : List X) (gs : List FormRange) (a b : List Terms) → gs ≡ ranges_list rs → map f refs ≡ conds_list cs →
    Gained a b (Upto (AtPlace (InAt K nested gs ps) (map f refs)) (length refs)) → Gained a b (JoinToIn K nested rs cs ps)
in_turn K nested rs cs ps f refs gs a b q m g =
    let l = length_behind f refs (conds_list cs) m in
    gained_as (Upto (AtPlace (InAt K nested (ranges_list rs) ps) (conds_list cs)) (length refs)) (JoinToIn K nested rs cs ps) a b (λ us. in_is K nested rs cs ps us (length refs) (omega (arith, l)))
    (subst (λ z. Gained a b (Upto (AtPlace (InAt K nested (ranges_list rs) ps) z) (length refs))) m (subst (λ z. Gained a b (Upto (AtPlace (InAt K nested z ps) (map f refs)) (length refs))) q g))
