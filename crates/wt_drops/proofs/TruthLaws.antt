-- Deciding that a condition is true or false beside the others.
use Rattle.std.proofs.Common.{ℕ, ◌≡◌, ◌⊎◌, ◌↔◌, inl, inr, IsTrue, Bool, true, List, [], ◌∷◌, map, take, Result, Ok, Err, sym, ap, ◌∙◌, subst}
use Rattle.std.specs.Prelude.{IfOk}
use Rattle.wt_bag.specs.Choices.{At, drop_at}
use Rattle.wt_symbol.specs.declared.head.PartCols.TheVariants.{Whole, List as Listed}
use Rattle.wt_form.specs.declared.form.Expr.{Expr}
use Rattle.wt_form.specs.declared.form.Expr.TheVariants.{Of, Null as NullOf}
use Rattle.wt_form.specs.Trees.{Terms, no_terms, term_then, Ranges, no_ranges, range_then, FormRange, Rel, distinct_of, Conds, no_conds, Cond}
use Rattle.wt_form.specs.Known.{Known}
use Rattle.wt_form.specs.Places.{list_rows}
use Rattle.wt_not_null.specs.NeverNull.{IsNeverNull}
use Rattle.wt_not_null.proofs.Nulls.{one_leaf}
use Rattle.wt_congruent.proofs.Pairing.{drop_at-map}
use Rattle.wt_places.proofs.GainedLaws.{take_map}
use Rattle.wt_drops.specs.Truths.{SomeSame, one_list, RefersFrom, ReferenceIn, LeafSame, AreOfRows, SideJoins, SomeJoins, InIsTrue, CondTrue}
use Rattle.wt_drops.specs.Drops.{Goes}

abbrev var_is : Expr → ℕ
var_is (Of v i c) = v
var_is (NullOf r c) = 0

abbrev list_is : Expr → ℕ
list_is (Of v i (Listed a)) = a
list_is (Of v i Whole) = 0
list_is (NullOf r c) = 0

-- an expression is over one variable, and on one list
pub one_var : (x : Expr) (v a w b : ℕ) → x ≡ Of v 0 (Listed a) → x ≡ Of w 0 (Listed b) → (v ≡ w) × (a ≡ b)
one_var x v a w b e f = (ap var_is (sym e ∙ f), ap list_is (sym e ∙ f))

pub refers_tells : (K : Known) (rs : List FormRange) (x a s b r : ℕ) (t : Bool) → At (λ range. range ≡ Rel r) x rs → t ≡ K.refs r a s b → ((t ≡ true) ↔ RefersFrom K rs x a s b)
refers_tells K rs x a s b r t at e = (λ h. (r, at, sym e ∙ h), λ h. e ∙ subst (λ z. K.refs z a s b ≡ true) (one_leaf rs x h.0 r h.1 at) h.2)

pub same_tells : (K : Known) (rs : List FormRange) (y s r : ℕ) (t : Bool) → At (λ range. range ≡ Rel r) y rs → t ≡ K.rel r s → ((t ≡ true) ↔ LeafSame K rs y s)
same_tells K rs y s r t at e = (λ h. (r, at, sym e ∙ h), λ h. e ∙ subst (λ z. K.rel z s ≡ true) (one_leaf rs y h.0 r h.1 at) h.2)

pub reference_tells : (K : Known) (rs : List FormRange) (cs : List Cond) (e : Expr) (s b x a : ℕ) (t : Bool) → e ≡ Of x 0 (Listed a) → ((t ≡ true) ↔ (RefersFrom K rs x a s b × IsNeverNull K rs cs e)) → ((t ≡ true) ↔ ReferenceIn K rs cs e s b)
reference_tells K rs cs e s b x a t is f = (
  λ h. let q = f.0 h in (x, a, is, q.0, q.1),
  λ h. let o = one_var e h.0 h.1 x a h.2 is in f.1 (subst (λ z. RefersFrom K rs x z s b) o.1 (subst (λ z. RefersFrom K rs z h.1 s b) o.0 h.3), h.4),
)

pub side_tells : (K : Known) (ks : List ℕ) (rs : List FormRange) (e : Expr) (s b : ℕ) (x y : Expr) (v c : ℕ) (t : Bool) → y ≡ Of v 0 (Listed c) → ((t ≡ true) ↔ AreOfRows K ks rs e s b x v c) → ((t ≡ true) ↔ SideJoins K ks rs e s b x y)
side_tells K ks rs e s b x y v c t is f = (
  λ h. (v, c, is, f.0 h),
  λ h. let o = one_var y h.0 h.1 v c h.2 is in f.1 (subst (λ z. AreOfRows K ks rs e s b x v z) o.1 (subst (λ z. AreOfRows K ks rs e s b x z h.1) o.0 h.3)),
)

abbrev ranges_of : Terms → Ranges
ranges_of no_terms = no_ranges
ranges_of (term_then rs cs ps ts) = rs

abbrev conds_of : Terms → Conds
conds_of no_terms = no_conds
conds_of (term_then rs cs ps ts) = cs

abbrev pieces_of : Terms → List Expr
pieces_of no_terms = []
pieces_of (term_then rs cs ps ts) = ps

abbrev rest_of : Terms → Terms
rest_of no_terms = no_terms
rest_of (term_then rs cs ps ts) = ts

-- the parts of the values of a list
pub list_parts : (rs : Ranges) (cs : Conds) (ps : List Expr) (ts : Terms) (s b : ℕ) → term_then rs cs ps ts ≡ list_rows s b → (rs ≡ range_then (Rel s) no_ranges) × (cs ≡ no_conds) × (ps ≡ one_list b) × (ts ≡ no_terms)
list_parts rs cs ps ts s b e = (ap ranges_of e, ap conds_of e, ap pieces_of e, ap rest_of e)

pub list_made : (rs : Ranges) (cs : Conds) (ps : List Expr) (ts : Terms) (s b : ℕ) → rs ≡ range_then (Rel s) no_ranges → cs ≡ no_conds → ps ≡ one_list b → ts ≡ no_terms → term_then rs cs ps ts ≡ list_rows s b
list_made rs cs ps ts s b e f g h = ap (λ z. term_then z cs ps ts) e ∙ ap (λ z. term_then (range_then (Rel s) no_ranges) z ps ts) f ∙ ap (λ z. term_then (range_then (Rel s) no_ranges) no_conds z ts) g ∙ ap (term_then (range_then (Rel s) no_ranges) no_conds (one_list b)) h

abbrev first_leaf : Terms → ℕ
first_leaf no_terms = 0
first_leaf (term_then no_ranges cs ps ts) = 0
first_leaf (term_then (range_then (Rel r) rs) cs ps ts) = r
first_leaf (term_then (range_then (distinct_of h us) rs) cs ps ts) = 0

abbrev first_list : List Expr → ℕ
first_list [] = 0
first_list (x ∷ xs) = list_is x

-- rows are those of one list
pub one_rows : (ts : Terms) (s b s' b' : ℕ) → ts ≡ list_rows s b → ts ≡ list_rows s' b' → (s ≡ s') × (b ≡ b')
one_rows ts s b s' b' e f = (ap first_leaf (sym e ∙ f), ap (λ z. first_list (pieces_of z)) (sym e ∙ f))

pub in_tells : (K : Known) (ks : List ℕ) (rs : List FormRange) (cs : List Cond) (e : Expr) (ts : Terms) (s b : ℕ) (t : Bool) → ts ≡ list_rows s b → ((t ≡ true) ↔ (ReferenceIn K rs cs e s b ⊎ SomeJoins K ks rs e s b cs)) → ((t ≡ true) ↔ InIsTrue K ks rs cs e ts)
in_tells K ks rs cs e ts s b t is f = (
  λ h. (s, b, is, f.0 h),
  λ h. let o = one_rows ts h.0 h.1 s b h.2 is in
      f.1 (subst (λ z. ReferenceIn K rs cs e s z ⊎ SomeJoins K ks rs e s z cs) o.1 (subst (λ z. ReferenceIn K rs cs e z h.1 ⊎ SomeJoins K ks rs e z h.1 cs) o.0 h.3)),
)

-- of two, the first is not so
pub or_second : {E : Type 0} (A B : Type 0) (r : Result Bool E) → (A → ⊥) → IfOk r (λ yes. IsTrue yes ↔ B) → IfOk r (λ yes. IsTrue yes ↔ (A ⊎ B))
or_second A B (Ok b) n h = (λ y. inr (h.0 y), λ s. elim s [ inl a ↦ absurd (n a) | inr q ↦ h.1 q ])
or_second A B (Err x) n h = tt

-- the condition at a place, beside those around it
pub goes_there : {X : Type 0} (K : Known) (ks : List ℕ) (rs : List FormRange) (f : X → Cond) (refs others before : List X) (j : ℕ) (c : Cond) → others ≡ drop_at j refs → before ≡ take j refs →
    CondTrue K ks rs (map f others) c ⊎ SomeSame K ks (map f before) c → Goes K ks rs (map f refs) j c
goes_there K ks rs f refs others before j c o b (inl h) = inl (subst (λ z. CondTrue K ks rs z c) (ap (map f) o ∙ sym (drop_at-map f j refs)) h)
goes_there K ks rs f refs others before j c o b (inr h) = inr (subst (λ z. SomeSame K ks z c) (ap (map f) b ∙ take_map f j refs) h)

pub goes_back : {X : Type 0} (K : Known) (ks : List ℕ) (rs : List FormRange) (f : X → Cond) (refs others before : List X) (j : ℕ) (c : Cond) → others ≡ drop_at j refs → before ≡ take j refs →
    Goes K ks rs (map f refs) j c → CondTrue K ks rs (map f others) c ⊎ SomeSame K ks (map f before) c
goes_back K ks rs f refs others before j c o b (inl h) = inl (subst (λ z. CondTrue K ks rs z c) (sym (ap (map f) o ∙ sym (drop_at-map f j refs))) h)
goes_back K ks rs f refs others before j c o b (inr h) = inr (subst (λ z. SomeSame K ks z c) (sym (ap (map f) b ∙ take_map f j refs)) h)
