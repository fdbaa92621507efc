-- Opening a variable of a term that fits keeps rows.
use Rattle.std.proofs.Common.{ℕ, zero, suc, Bool, true, List, [], ◌∷◌, ◌≡◌, refl, sym, ap, ◌∙◌, subst, ◌⊎◌, eqb-true}
use Rattle.std.specs.Prelude.{slice_index_or}
use Rattle.std.proofs.lemmas.Bool.{false≢true}
use Rattle.wt_bag.specs.Bags.{Each, AtMostOne}
use Rattle.wt_bag.specs.Choices.{choices, Fitting, At}
use Rattle.wt_bag.proofs.EachLaws.{each_implies}
use Rattle.wt_value.specs.Values.{Tuple}
use Rattle.wt_symbol.specs.declared.head.Part.{Part}
use Rattle.wt_symbol.specs.declared.head.PartCols.{PartCols}
use Rattle.wt_symbol.specs.declared.head.PartCols.TheVariants.{Whole, List as Listed}
use Rattle.wt_form.specs.declared.form.Expr.{Expr}
use Rattle.wt_form.specs.declared.form.Expr.TheVariants.{Of, Null as NullOf}
use Rattle.wt_form.specs.Trees.{Terms, Ranges, range_then, FormRange, Rel, distinct_of, Conds}
use Rattle.wt_form.specs.Parts.{one_term, ranges_append, ranges_count, ranges_list}
use Rattle.wt_form.specs.Known.{Known}
use Rattle.wt_form.specs.Closed.{IsWithin}
use Rattle.wt_form.specs.Opening.{Opened}
use Rattle.wt_instance.specs.declared.instance.Instance.{Instance}
use Rattle.wt_rows.specs.FormRows.{Piece, Env, FormRow, form_row_same, numbered, label, labels, terms_rows, ranges_rows}
use Rattle.wt_rows.specs.Fits.{AreOf, HasPart, ExprFits, RangesFit, CondsFit, RowFits}
use Rattle.wt_rows.specs.Keeping.{Keeps}
use Rattle.wt_rows.proofs.Reading.{RowReads, row_reads}
use Rattle.wt_rows.proofs.Values.{InRange, Chosen, each_chosen}
use Rattle.wt_rows.proofs.Take.{CutReads, CutReadsAt, cut_list, cut_whole, cut_null}
use Rattle.wt_rows.proofs.Opening.{OverPart, opening_keeps}
use Rattle.wt_rows.proofs.Exist.{expr_within, conds_exprs, ranges_right, at_behind}

-- a part that is read whole is numbered from 0 on
labels_whole : (I : Instance) (h : List Part) (i : ℕ) (row : FormRow) → At (λ part. AreOf I part.cols Whole) i h → (vs : Tuple) × (slice_index_or (labels I h row) i [] ≡ numbered 0 vs)
labels_whole I [] i row a = absurd a
labels_whole I (p ∷ h) i [] a = ([], refl)
labels_whole I (p ∷ h) zero (vs ∷ row) a = go p.cols refl
  where
    go : (c : PartCols) → p.cols ≡ c → (us : Tuple) × (label I p.cols vs ≡ numbered 0 us)
    go Whole e = (vs, ap (λ c. label I c vs) e)
    go (Listed d) e = absurd (subst (λ c. AreOf I c Whole) e a)
labels_whole I (p ∷ h) (suc i) (vs ∷ row) a = labels_whole I h i row a

whole_range : (I : Instance) (range : FormRange) (i : ℕ) (p : List Piece) → HasPart I range i Whole → InRange I range p → (vs : Tuple) × (slice_index_or p i [] ≡ numbered 0 vs)
whole_range I (Rel r) i p h (row, has, q) = (row, ap (λ j. slice_index_or p j []) h ∙ ap (λ z. slice_index_or z 0 []) q)
whole_range I (distinct_of hs ts) i p h (row, q) = let w = labels_whole I hs i row h in (w.0, ap (λ z. slice_index_or z i []) q ∙ w.1)

pub whole_chosen : (I : Instance) (rs : List FormRange) (e : Env) (v i : ℕ) → Fitting (InRange I) rs e → At (λ range. HasPart I range i Whole) v rs → (vs : Tuple) × (slice_index_or (slice_index_or e v []) i [] ≡ numbered 0 vs)
whole_chosen I [] e v i f a = absurd a
whole_chosen I (r ∷ rs) [] v i f a = absurd f
whole_chosen I (r ∷ rs) (p ∷ e) zero i f a = whole_range I r i p a f.0
whole_chosen I (r ∷ rs) (p ∷ e) (suc v) i f a = whole_chosen I rs e v i f.1 a

-- each piece can be cut to columns of its part
cut_reads : (I : Instance) (rs : Ranges) (e : Env) (own c : PartCols) (x : Expr) → Chosen I rs e → ExprFits I rs x → AreOf I own c → CutReads I e own c x
cut_reads I rs e Whole c (Of v i Whole) f fits a = λ p q. let w = whole_chosen I (ranges_list rs) e v i f fits.0 in cut_whole I e v i c w.0 w.1 p q
cut_reads I rs e Whole c (Of v i (Listed d)) f fits a = λ p q. absurd (false≢true q)
cut_reads I rs e (Listed b) c (Of v i Whole) f fits a = λ p q. absurd (false≢true q)
cut_reads I rs e (Listed b) Whole (Of v i (Listed d)) f fits a = absurd a
cut_reads I rs e (Listed b) (Listed c) (Of v i (Listed d)) f fits a = λ p q.
    subst (λ z. CutReads I e (Listed b) (Listed c) (Of v i (Listed z))) (sym (eqb-true d b q)) (cut_list I e v i b c a) p q
cut_reads I rs e Whole Whole (NullOf r d) f fits a = λ p. absurd (false≢true (sym p))
cut_reads I rs e (Listed b) Whole (NullOf r d) f fits a = absurd a
cut_reads I rs e own (Listed c) (NullOf r d) f fits a = λ p. cut_null I e own r c d p

cut_reads_at : (I : Instance) (rs : Ranges) (e : Env) (hs : List Part) (ps : List Expr) (i : ℕ) (c : PartCols) → Chosen I rs e → Each (ExprFits I rs) ps → At (λ part. AreOf I part.cols c) i hs → CutReadsAt I e i c hs ps
cut_reads_at I rs e [] ps i c f fits a = tt
cut_reads_at I rs e (p ∷ hs) [] i c f fits a = tt
cut_reads_at I rs e (p ∷ hs) (x ∷ ps) zero c f fits a = cut_reads I rs e p.cols c x f fits.0 a
cut_reads_at I rs e (p ∷ hs) (x ∷ ps) (suc i) c f fits a = cut_reads_at I rs e hs ps i c f fits.1 a

-- an expression of the term over the opened variable has columns of one of its parts
over_part : (I : Instance) (before after : Ranges) (hs : List Part) (ts : Terms) (x : Expr) → ExprFits I (ranges_append before (range_then (distinct_of hs ts) after)) x →
    OverPart (ranges_count before) (λ i c. At (λ part. AreOf I part.cols c) i hs) x
over_part I before after hs ts (Of v i c) fits = λ e. at_behind (λ range. HasPart I range i c) before (distinct_of hs ts) after (subst (λ z. At (λ range. HasPart I range i c) z (ranges_list (ranges_append before (range_then (distinct_of hs ts) after)))) e fits.0)
over_part I before after hs ts (NullOf r c) fits = tt

pub opened_fits_keeps : (K : Known) (I : Instance) (k : Bool) (rs : Ranges) (cs : Conds) (ps : List Expr) (us : Terms) (s : Opened K k rs cs ps us) → RangesFit I rs → CondsFit I rs cs → Each (ExprFits I rs) ps →
    ((k ≡ true) ⊎ ((row : FormRow) → AtMostOne (λ y. form_row_same row y) (terms_rows (one_term s.inner s.conds s.pieces) I))) → Keeps k (terms_rows (one_term rs cs ps) I) (terms_rows us I)
opened_fits_keeps K I k rs cs ps us s fr fc fp once =
    let D = distinct_of s.head (one_term s.inner s.conds s.pieces) in
    let inside = (ranges_right I s.before (range_then D s.after) (subst (RangesFit I) s.is fr)).0 in
    let term = inside.1.0 in
    opening_keeps K I k rs cs ps us s (λ i c. At (λ part. AreOf I part.cols c) i s.head) once
    (conds_exprs I s.inner (IsWithin (ranges_count s.inner)) (expr_within I s.inner) s.conds term.1)
    (each_implies (ExprFits I s.inner) (IsWithin (ranges_count s.inner)) s.pieces (expr_within I s.inner) term.3)
    (conds_exprs I rs (OverPart (ranges_count s.before) (λ i c. At (λ part. AreOf I part.cols c) i s.head)) over cs fc)
    (each_implies (ExprFits I rs) (OverPart (ranges_count s.before) (λ i c. At (λ part. AreOf I part.cols c) i s.head)) ps over fp)
    (each_implies (RowFits I s.head) (RowReads I s.head) (terms_rows (one_term s.inner s.conds s.pieces) I) (row_reads I s.head) inside.0.1)
    (each_implies (Chosen I s.inner) (λ e. (i : ℕ) (c : PartCols) → At (λ part. AreOf I part.cols c) i s.head → CutReadsAt I e i c s.head s.pieces) (choices (ranges_rows s.inner I))
    (λ e f i c a. cut_reads_at I s.inner e s.head s.pieces i c f term.3 a) (each_chosen I s.inner))
  where
    over : (x : Expr) → ExprFits I rs x → OverPart (ranges_count s.before) (λ i c. At (λ part. AreOf I part.cols c) i s.head) x
    over x h = over_part I s.before s.after s.head (one_term s.inner s.conds s.pieces) x (subst (λ q. ExprFits I q x) s.is h)
