-- The search for a pairing of two terms with other conditions.
use Rattle.std.proofs.Common.{ℕ, ◌<◌, ◌≤◌, ◌≡◌, ◌↔◌, IsTrue, Bool, true, List, take, get_or, length, Result, Ok, Err, sym, ◌∙◌, subst}
use Rattle.std.specs.Prelude.{IfOk}
use Rattle.std.proofs.lemmas.List.{take_all}
use Rattle.wt_bag.specs.Choices.{Has}
use Rattle.wt_symbol.specs.declared.head.Part.{Part}
use Rattle.wt_form.specs.declared.form.Expr.{Expr}
use Rattle.wt_form.specs.Trees.{Terms, FormRange, Conds, Cond, is_in, not_in}
use Rattle.wt_form.specs.Parts.{ranges_list}
use Rattle.wt_form.specs.Known.{Known}
use Rattle.wt_form.specs.Congruent.{RangesSame, CondsSame, TermsSame, expr_same, pieces_same}
use Rattle.wt_form.specs.Views.{OneTerm}
use Rattle.wt_congruent.proofs.Pairing.{has_at}
use Rattle.wt_two_terms.specs.Splits.{SameBut, SplitBy}

pub but_hit : (K : Known) (t u : OneTerm) (cs : Conds) (ds : List Cond) (e f : Expr) (ways : List (List ℕ)) (n : ℕ) (way ks ks' : List ℕ) (gs gs' : List FormRange) → n < length ways → way ≡ get_or ways n way → ks ≡ way → ks' ≡ way → gs ≡ gs' → gs' ≡ ranges_list u.ranges →
    ((k : List ℕ) → (Has k ways ↔ RangesSame K k t.ranges gs)) → CondsSame K ks cs ds → (expr_same K ks' e f ≡ true) × (pieces_same K ks' t.pieces u.pieces ≡ true) → SameBut K t cs e u ds f
but_hit K t u cs ds e f ways n way ks ks' gs gs' l g k k' a b exact c p =
    (way, subst (RangesSame K way t.ranges) (a ∙ b) ((exact way).0 (has_at ways n way l g)), subst (λ z. expr_same K z e f ≡ true) k' p.0, subst (λ z. CondsSame K z cs ds) k c, subst (λ z. pieces_same K z t.pieces u.pieces ≡ true) k' p.1)

pub but_none : (K : Known) (t u : OneTerm) (cs : Conds) (ds : List Cond) (e f : Expr) (ways : List (List ℕ)) (n : ℕ) (gs gs' : List FormRange) → length ways ≤ n → gs ≡ gs' → gs' ≡ ranges_list u.ranges → ((k : List ℕ) → (Has k ways ↔ RangesSame K k t.ranges gs)) →
    ((k : List ℕ) → Has k (take n ways) → (CondsSame K k cs ds × (expr_same K k e f ≡ true) × (pieces_same K k t.pieces u.pieces ≡ true)) → ⊥) → SameBut K t cs e u ds f → ⊥
but_none K t u cs ds e f ways n gs gs' l a b exact none h =
    none h.0 (subst (Has h.0) (sym (take_all n ways l)) ((exact h.0).1 (subst (RangesSame K h.0 t.ranges) (sym (a ∙ b)) h.1))) (h.3, h.2, h.4)

-- an In and a NotIn in the same rows
pub split_tells : {E : Type 0} (K : Known) (t u : OneTerm) (c d : Cond) (cs : Conds) (ds : List Cond) (e f : Expr) (h h' : List Part) (ts us : Terms) (r : Result Bool E) → c ≡ is_in e h ts → d ≡ not_in f h' us → TermsSame K ts us →
    IfOk r (λ yes. IsTrue yes ↔ SameBut K t cs e u ds f) → IfOk r (λ yes. IsTrue yes ↔ SplitBy K t c cs u d ds)
split_tells K t u c d cs ds e f h h' ts us (Ok b) p q rows g =
    subst (λ z. (b ≡ true) ↔ SplitBy K t z cs u d ds) (sym p) (subst (λ z. (b ≡ true) ↔ SplitBy K t (is_in e h ts) cs u z ds) (sym q) (λ y. (rows, g.0 y), λ s. g.1 s.1))
split_tells K t u c d cs ds e f h h' ts us (Err x) p q rows g = tt

pub no_split : (K : Known) (t u : OneTerm) (c d : Cond) (cs : Conds) (ds : List Cond) (e f : Expr) (h h' : List Part) (ts us : Terms) → c ≡ is_in e h ts → d ≡ not_in f h' us → (TermsSame K ts us → ⊥) → SplitBy K t c cs u d ds → ⊥
no_split K t u c d cs ds e f h h' ts us p q rows s = rows (subst (λ z. SplitBy K t (is_in e h ts) cs u z ds) q (subst (λ z. SplitBy K t z cs u d ds) p s)).0
