-- The form of each operator, from what a program has of its operands.
use Rattle.std.proofs.Common.{ℕ, List, [], ◌∷◌, ◌++◌, ◌≡◌, refl, ap, ◌∙◌}
use Rattle.std.specs.Prelude.{Result, Ok, Err, IfOk}
use Rattle.wt_symbol.specs.declared.head.Part.{Part}
use Rattle.wt_symbol.specs.declared.head.PartCols.TheVariants.{List as Listed}
use Rattle.wt_symbol.specs.Sides.{SideTree, proj, filtered, inner_join, left_join, in_sub}
use Rattle.wt_symbol.specs.Heads.{anchor}
use Rattle.wt_form.specs.declared.form.Form.{Form as CodeForm}
use Rattle.wt_form.specs.Trees.{Terms, no_terms, term_then, Pred, is_in, not_in, Form}
use Rattle.wt_form.specs.Parts.{terms_append}
use Rattle.wt_form.specs.Views.{terms_seen, form_seen}
use Rattle.wt_form.specs.FormOf.{each_term, list_expr, proj_term, cond_term, null_term, join_terms, form_of}

pub form_ok : {E : Type 0} (r : Result CodeForm E) (a : List Part) (b : Terms) (y : Form) → IfOk r (λ z. z.head ≡ a) → IfOk r (λ z. terms_seen z.terms ≡ b) → record { head = a; terms = b } ≡ y → IfOk r (λ z. form_seen z ≡ y)
form_ok (Ok z) a b y h k e = (λ i. record { head = h i; terms = k i }) ∙ e
form_ok (Err x) a b y h k e = tt

pub append-none : (ts : Terms) → terms_append ts no_terms ≡ ts
append-none no_terms = refl
append-none (term_then rs cs ps ts) = ap (term_then rs cs ps) (append-none ts)

module _ (A : List ℕ) where
  pub proj_is : (t s s' : SideTree) (a r l : ℕ) (f : Form) → t ≡ proj a s → s' ≡ s → f ≡ form_of s' A → l ≡ a → r ≡ anchor A a →
      record { head = record { leaf = r; cols = Listed l } ∷ []; terms = each_term (proj_term (λ ps. list_expr f.head ps r l)) f.terms } ≡ form_of t A
  proj_is t s s' a r l f e m q g h = rw (e, q, m, h, g) refl

  pub filtered_is : (t s s' : SideTree) (p a r l : ℕ) (f : Form) → t ≡ filtered p a s → s' ≡ s → f ≡ form_of s' A → l ≡ a → r ≡ anchor A a →
      record { head = f.head; terms = each_term (cond_term (λ ps. Pred p (list_expr f.head ps r l))) f.terms } ≡ form_of t A
  filtered_is t s s' p a r l f e m q g h = rw (e, q, m, h, g) refl

  pub inner_is : (t s s' u u' : SideTree) (a b r l q m : ℕ) (f g : Form) → t ≡ inner_join a b s u → s' ≡ s → u' ≡ u → f ≡ form_of s' A → g ≡ form_of u' A → l ≡ a → r ≡ anchor A a → m ≡ b → q ≡ anchor A b →
      record { head = f.head ++ g.head; terms = join_terms (λ ps. list_expr f.head ps r l) (λ ps. list_expr g.head ps q m) f.terms g.terms } ≡ form_of t A
  inner_is t s s' u u' a b r l q m f g e1 e2 e3 e4 e5 e6 e7 e8 e9 = rw (e1, e4, e5, e2, e3, e7, e6, e9, e8) refl

  pub left_is : (t s s' u u' : SideTree) (a b r l q m : ℕ) (f g : Form) → t ≡ left_join a b s u → s' ≡ s → u' ≡ u → f ≡ form_of s' A → g ≡ form_of u' A → l ≡ a → r ≡ anchor A a → m ≡ b → q ≡ anchor A b →
      record {
        head = f.head ++ g.head;
        terms = terms_append (join_terms (λ ps. list_expr f.head ps r l) (λ ps. list_expr g.head ps q m) f.terms g.terms)
            (each_term (null_term (λ ps. not_in (list_expr f.head ps r l) (record { leaf = q; cols = Listed m } ∷ []) (each_term (proj_term (λ ps. list_expr g.head ps q m)) g.terms)) g.head) f.terms);
      } ≡ form_of t A
  left_is t s s' u u' a b r l q m f g e1 e2 e3 e4 e5 e6 e7 e8 e9 = rw (e1, e4, e5, e2, e3, e7, e6, e9, e8) refl

  pub in_sub_is : (t s s' u u' : SideTree) (a r l : ℕ) (f g : Form) → t ≡ in_sub a s u → s' ≡ s → u' ≡ u → f ≡ form_of s' A → g ≡ form_of u' A → l ≡ a → r ≡ anchor A a →
      record { head = f.head; terms = each_term (cond_term (λ ps. is_in (list_expr f.head ps r l) g.head g.terms)) f.terms } ≡ form_of t A
  in_sub_is t s s' u u' a r l f g e1 e2 e3 e4 e5 e6 e7 = rw (e1, e4, e5, e2, e3, e7, e6) refl
