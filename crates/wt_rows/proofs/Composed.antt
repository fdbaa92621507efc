-- Where a pair is provable under a set, both sides give one bag on every instance that meets the set.
use Rattle.std.proofs.Common.{ℕ, Bool, true, List, map, ◌≡◌, sym, ◌∙◌}
use Rattle.wt_bag.specs.Bags.{SameSums}
use Rattle.wt_bag.proofs.BagLaws.{one_bag}
use Rattle.wt_bag.proofs.TotalLaws.{total-map}
use Rattle.wt_value.specs.Values.{row_same, IsOneBag}
use Rattle.wt_symbol.specs.Sides.{PairTree}
use Rattle.wt_symbol.specs.Lawful.{IsLawful}
use Rattle.wt_constraint.specs.declared.set.AtomSet.{AtomSet}
use Rattle.wt_symbol.specs.declared.head.Part.{Part}
use Rattle.wt_bag.specs.Bags.{Each}
use Rattle.wt_form.specs.declared.form.Expr.{Expr}
use Rattle.wt_form.specs.Trees.{Terms, term_then, Ranges, Conds, Form}
use Rattle.wt_form.specs.Parts.{one_term}
use Rattle.wt_form.specs.Congruent.{Congruent}
use Rattle.wt_form.specs.Steps.{Row, PairRow, TermsStep, Step}
use Rattle.wt_form.specs.Known.{Known}
use Rattle.wt_form.specs.FormOf.{side_terms, form_of}
use Rattle.wt_form.specs.Provable.{ProvableForms}
use Rattle.wt_form.specs.Under.{Under, Provable}
use Rattle.wt_instance.specs.declared.instance.Instance.{Instance}
use Rattle.wt_instance.specs.Instances.{IsInstance}
use Rattle.wt_instance.specs.Meeting.{lists_come, Meets}
use Rattle.wt_instance.specs.Rows.{rows_of}
use Rattle.wt_instance.proofs.Columns.{all_wide}
use Rattle.wt_rows.specs.FormRows.{FormRow, put_together, terms_rows, form_rows}
use Rattle.wt_rows.specs.Fits.{ExprFits, RangesFit, CondsFit, TermsFit, Fits}
use Rattle.wt_rows.specs.Keeping.{Keeps}
use Rattle.wt_rows.proofs.Reading.{AreFilled}
use Rattle.wt_rows.proofs.Pairs.{pair_keeps}
use Rattle.wt_rows.specs.Holding.{KnownHolds}
use Rattle.wt_rows.proofs.Same.{terms_congruent}
use Rattle.wt_rows.proofs.Holds.{known_holds}
use Rattle.wt_rows.proofs.SideFits.{side_fits}
use Rattle.wt_rows.proofs.Translation.{translated}
use Rattle.wt_rows.proofs.Standing.{source_stands, dest_stands, filled, each_filled}
use Rattle.wt_rows.proofs.FitSteps.{row_keeps_rows, step_rows, terms_fit, step_keeps, chain_keeps}

-- rows put together
put_same : (xs ys : List FormRow) → SameSums xs ys → SameSums (map put_together xs) (map put_together ys)
put_same xs ys h = record { sums = λ g. total-map g put_together xs ∙ h.sums (λ row. g (put_together row)) ∙ sym (total-map g put_together ys) }

-- the form of each side of a lawful pair fits, and its rows are the side's
module _ (p : PairTree) (lawful : IsLawful p) (I : Instance) (is : IsInstance p I) where
  pub source_translated : lists_come p.source p.anchors I ≡ true → Fits I (form_of p.source p.anchors) × IsOneBag (rows_of p.source p.anchors I) (form_rows (form_of p.source p.anchors) I)
  source_translated come =
      let stands = source_stands p lawful I is come in
      (side_fits I p.anchors (all_wide p I is) p.source stands, one_bag row_same _ _ (translated I p.anchors (all_wide p I is) p.source stands))

  pub dest_translated : lists_come p.dest p.anchors I ≡ true → Fits I (form_of p.dest p.anchors) × IsOneBag (rows_of p.dest p.anchors I) (form_rows (form_of p.dest p.anchors) I)
  dest_translated come =
      let stands = dest_stands p lawful I is come in
      (side_fits I p.anchors (all_wide p I is) p.dest stands, one_bag row_same _ _ (translated I p.anchors (all_wide p I is) p.dest stands))

-- a step of a form that fits, and congruent forms
module _ (p : PairTree) (set : AtomSet) (I : Instance) (is : IsInstance p I) (met : Meets p set I) (K : Known) (under : Under p set K) where
  full : AreFilled I
  full a l = each_filled I.lists is.filled a l

  pub step_one_bag : (f g : Form) → Fits I f → Step K f g → Fits I g × IsOneBag (form_rows f I) (form_rows g I)
  step_one_bag f g fits s =
      let r = step_keeps K I (known_holds p set I met K under) full f g fits s in
      (r.0, one_bag row_same _ _ (put_same _ _ r.1))

  pub row_keeps : (k : Bool) (rs : Ranges) (cs : Conds) (ps : List Expr) (us : Terms) → RangesFit I rs → CondsFit I rs cs → Each (ExprFits I rs) ps → Row K k rs cs ps us → Keeps k (terms_rows (one_term rs cs ps) I) (terms_rows us I)
  row_keeps = row_keeps_rows K I (known_holds p set I met K under) full

  pub two_keep : (k : Bool) (rs : Ranges) (cs : Conds) (ps : List Expr) (rs' : Ranges) (cs' : Conds) (ps' : List Expr) (us : Terms) → PairRow K k rs cs ps rs' cs' ps' us → Keeps k (terms_rows (term_then rs cs ps (one_term rs' cs' ps')) I) (terms_rows us I)
  two_keep k rs cs ps rs' cs' ps' us t = pair_keeps K I (known_holds p set I met K under) k rs cs ps rs' cs' ps' us t

  pub nested_keeps : (k : Bool) (h : List Part) (ts us : Terms) → TermsFit I h ts → TermsStep (Row K) (PairRow K) k ts us → TermsFit I h us × Keeps k (terms_rows ts I) (terms_rows us I)
  nested_keeps k h ts us fits s =
      (terms_fit K I (known_holds p set I met K under) full k h ts us fits s, step_rows K I (known_holds p set I met K under) full k h ts us fits s)

  pub congruent_one_bag : (f g : Form) → Congruent K f g → IsOneBag (form_rows f I) (form_rows g I)
  congruent_one_bag f g same = one_bag row_same _ _ (put_same _ _ (record { sums = λ w. terms_congruent K I (known_holds p set I met K under) f.terms g.terms same w }))

module _ (p : PairTree) (lawful : IsLawful p) (set : AtomSet) (I : Instance) (is : IsInstance p I) (met : Meets p set I) where
  forms_same : (K : Known) (k : ℕ) → KnownHolds K I → ProvableForms K k (form_of p.source p.anchors) (form_of p.dest p.anchors) → SameSums (terms_rows (side_terms p.source p.anchors) I) (terms_rows (side_terms p.dest p.anchors) I)
  forms_same K k means (f, g, c, d, same) =
      let wide = all_wide p I is in
      let left = chain_keeps K I means (filled p lawful I is) k (form_of p.source p.anchors) f (side_fits I p.anchors wide p.source (source_stands p lawful I is met.source)) c in
      let right = chain_keeps K I means (filled p lawful I is) k (form_of p.dest p.anchors) g (side_fits I p.anchors wide p.dest (dest_stands p lawful I is met.dest)) d in
      record { sums = λ w. left.1.sums w ∙ terms_congruent K I means f.terms g.terms same w ∙ sym (right.1.sums w) }

  pub provable_sums : (k : ℕ) → Provable p set k → SameSums (rows_of p.source p.anchors I) (rows_of p.dest p.anchors I)
  provable_sums k h =
      let wide = all_wide p I is in
      let source = translated I p.anchors wide p.source (source_stands p lawful I is met.source) in
      let dest = translated I p.anchors wide p.dest (dest_stands p lawful I is met.dest) in
      let forms = put_same _ _ (forms_same h.known k (known_holds p set I met h.known h.under) h.forms) in
      record { sums = λ w. source.sums w ∙ forms.sums w ∙ sym (dest.sums w) }

  -- both sides of a provable pair give one bag
  pub provable_one_bag : (k : ℕ) → Provable p set k → IsOneBag (rows_of p.source p.anchors I) (rows_of p.dest p.anchors I)
  provable_one_bag k h = one_bag row_same (rows_of p.source p.anchors I) (rows_of p.dest p.anchors I) (provable_sums k h)
