-- Of two joined expressions the one before is written for the other.
use Rattle.std.proofs.Common.{ℕ, Bool, true, false, ◌&&◌, cond, List, map, ◌≡◌, refl, sym, ap, ◌∙◌, subst, eqb-true}
use Rattle.std.specs.Prelude.{nat_eq}
use Rattle.std.proofs.lemmas.Bool.{and_parts, false≢true}
use Rattle.wt_bag.specs.Bags.{only, SameSums}
use Rattle.wt_bag.specs.Choices.{choices}
use Rattle.wt_bag.proofs.TotalLaws.{total_ext}
use Rattle.wt_symbol.specs.declared.head.PartCols.{PartCols}
use Rattle.wt_symbol.specs.declared.head.PartCols.TheVariants.{Whole, List as Listed}
use Rattle.wt_form.specs.declared.form.Expr.{Expr}
use Rattle.wt_form.specs.declared.form.Expr.TheVariants.{Of, Null as NullOf}
use Rattle.wt_form.specs.Trees.{Terms, Ranges, Conds}
use Rattle.wt_form.specs.Parts.{one_term, conds_append, conds_map}
use Rattle.wt_form.specs.Known.{Known, cols_eq}
use Rattle.wt_instance.specs.declared.instance.Instance.{Instance}
use Rattle.wt_rows.specs.FormRows.{Env, FormRow, values_of, row_of, terms_rows, ranges_rows, conds_hold, cond_holds}
use Rattle.wt_rows.specs.Holding.{KnownHolds}
use Rattle.wt_form.specs.Places.{others}
use Rattle.wt_form.specs.Changes.{expr_eq, put}
use Rattle.wt_form.specs.Joining.{Rewritten}
use Rattle.wt_rows.proofs.Sums.{total-one, conds_hold-middle, conds_hold-append}
use Rattle.wt_rows.proofs.Values.{matched_equal, joined_match}
use Rattle.wt_rows.proofs.Vars.{conds_keep, row_keeps}
use Rattle.wt_rows.proofs.Drops.{at_place_holds}

pub cols_equal : (c d : PartCols) → cols_eq c d ≡ true → c ≡ d
cols_equal Whole Whole h = refl
cols_equal (Listed a) (Listed b) h = ap Listed (eqb-true a b h)
cols_equal Whole (Listed b) h = absurd (false≢true h)
cols_equal (Listed a) Whole h = absurd (false≢true h)

expr_equal : (x y : Expr) → expr_eq x y ≡ true → x ≡ y
expr_equal (Of v i c) (Of w j d) h =
    let p = and_parts (nat_eq v w) (nat_eq i j && cols_eq c d) h in
    let q = and_parts (nat_eq i j) (cols_eq c d) p.1 in
    ap (λ u. Of u i c) (eqb-true v w p.0) ∙ ap (λ u. Of w u c) (eqb-true i j q.0) ∙ ap (Of w j) (cols_equal c d q.1)
expr_equal (NullOf r c) (NullOf s d) h =
    let p = and_parts (nat_eq r s) (cols_eq c d) h in ap (λ u. NullOf u c) (eqb-true r s p.0) ∙ ap (NullOf s) (cols_equal c d p.1)
expr_equal (Of v i c) (NullOf s d) h = absurd (false≢true h)
expr_equal (NullOf r c) (Of w j d) h = absurd (false≢true h)

put_keeps : (I : Instance) (e : Env) (x y z : Expr) → values_of I e x ≡ values_of I e y → values_of I e (put x y z) ≡ values_of I e z
put_keeps I e x y z h = go (expr_eq z y) refl
  where
    go : (b : Bool) → expr_eq z y ≡ b → values_of I e (cond (expr_eq z y) x z) ≡ values_of I e z
    go true q = ap (λ b. values_of I e (cond b x z)) q ∙ h ∙ ap (values_of I e) (sym (expr_equal z y q))
    go false q = ap (λ b. values_of I e (cond b x z)) q

module _ (K : Known) (I : Instance) (means : KnownHolds K I) where
  pub rewritten_keeps : (rs : Ranges) (cs : Conds) (ps : List Expr) (us : Terms) → Rewritten K rs cs ps us → SameSums (terms_rows (one_term rs cs ps) I) (terms_rows us I)
  rewritten_keeps rs cs ps us s =
      subst (λ ts. SameSums (terms_rows (one_term rs cs ps) I) (terms_rows ts I)) (sym s.gives) (record {
        sums = λ g.
            total-one I g rs cs ps ∙ total_ext _ _ (choices (ranges_rows rs I)) (λ e. at g e (cond_holds s.join I e) refl) ∙ sym (total-one I g rs s.cs' (map (put s.e s.e') ps));
      })
    where
      at : (g : FormRow → ℕ) (e : Env) (b : Bool) → cond_holds s.join I e ≡ b → only (conds_hold cs I e) (g (row_of I ps e)) ≡ only (conds_hold s.cs' I e) (g (row_of I (map (put s.e s.e') ps) e))
      at g e true q =
          let same = matched_equal (values_of I e s.e) (values_of I e s.e') (joined_match K I means e s.e s.e' s.join s.joins q) in
          let keeps : (z : Expr) → values_of I e (put s.e s.e' z) ≡ values_of I e z = λ z. put_keeps I e s.e s.e' z same in
          let both : (conds_hold (conds_map (put s.e s.e') s.place.before) I e && conds_hold (conds_map (put s.e s.e') s.place.after) I e) ≡ (conds_hold s.place.before I e && conds_hold s.place.after I e)
          = rw (conds_keep I (put s.e s.e') e e keeps s.place.before, conds_keep I (put s.e s.e') e e keeps s.place.after) refl in
          let held : conds_hold cs I e ≡ (cond_holds s.join I e && (conds_hold s.place.before I e && conds_hold s.place.after I e))
          = at_place_holds I e cs s.join s.place ∙ ap (λ b. cond_holds s.join I e && b) (conds_hold-append I e s.place.before s.place.after) in
          let held' : conds_hold s.cs' I e ≡ (cond_holds s.join I e && (conds_hold s.place.before I e && conds_hold s.place.after I e))
          = ap (λ ds. conds_hold ds I e) s.is ∙ conds_hold-middle I e (conds_map (put s.e s.e') s.place.before) (conds_map (put s.e s.e') s.place.after) s.join
          ∙ ap (λ b. cond_holds s.join I e && b) (conds_hold-append I e (conds_map (put s.e s.e') s.place.before) (conds_map (put s.e s.e') s.place.after) ∙ both) in
          ap (λ b. only b (g (row_of I ps e))) (held ∙ sym held') ∙ ap (λ row. only (conds_hold s.cs' I e) (g row)) (sym (row_keeps I (put s.e s.e') e e keeps ps))
      at g e false q =
          ap (λ b. only b (g (row_of I ps e))) (at_place_holds I e cs s.join s.place ∙ ap (λ b. b && conds_hold (others s.place) I e) q)
          ∙ sym (ap (λ b. only b (g (row_of I (map (put s.e s.e') ps) e))) (ap (λ ds. conds_hold ds I e) s.is ∙ conds_hold-middle I e (conds_map (put s.e s.e') s.place.before) (conds_map (put s.e s.e') s.place.after) s.join
          ∙ ap (λ b. b && conds_hold (conds_append (conds_map (put s.e s.e') s.place.before) (conds_map (put s.e s.e') s.place.after)) I e) q))
