-- Numbers of forms: they stay, a number has one form, and a form one number.
use Rattle.std.proofs.Common.{ℕ, ◌≡◌, List, [], ◌∷◌, Result, Ok, Err, IfOk, OnOk, length, get_or, take, drop, ◌≤◌, ◌-◌, refl, sym, ap, ◌∙◌, subst, arith}
use Rattle.wt_symbol.specs.declared.head.Part.{Part}
use Rattle.wt_symbol.specs.declared.head.PartCols.{PartCols}
use Rattle.wt_symbol.specs.declared.head.PartCols.TheVariants as cols
use Rattle.wt_form.specs.declared.form.Expr.{Expr}
use Rattle.wt_form.specs.declared.form.Expr.TheVariants as exprs
use Rattle.wt_form.specs.Trees.{Terms, no_terms, term_then, Ranges, no_ranges, range_then, FormRange, Rel, distinct_of, Conds, no_conds, cond_then, Cond, Pred, Join, is_in, not_in, Form}
use Rattle.wt_form_table.specs.declared.cell.Columns.{Columns}
use Rattle.wt_form_table.specs.declared.cell.Columns.TheVariants as columns
use Rattle.wt_form_table.specs.declared.cell.Value.{Value}
use Rattle.wt_form_table.specs.declared.cell.Value.TheVariants as values
use Rattle.wt_form_table.specs.declared.cell.Test.{Test}
use Rattle.wt_form_table.specs.declared.cell.Test.TheVariants as tests
use Rattle.wt_form_table.specs.declared.cell.Front.{Front}
use Rattle.wt_form_table.specs.declared.cell.Front.TheVariants as fronts
use Rattle.wt_form_table.specs.declared.cell.Entry.{Entry}
use Rattle.wt_form_table.specs.declared.cell.Entry.TheVariants as entries
use Rattle.std.proofs.lemmas.List.{take_all}
use Rattle.wt_form_table.specs.Entries.{First, Goes, Tables, columns_of, value_of}
use Rattle.wt_form_table.specs.Spelled.{Then, Tested, IsHead, IsPieces, IsTerms, IsRanges, IsRange, IsConds, IsCond, IsForm}
use Rattle.wt_form_table.proofs.Firsts.{one_place, one_entry, first_stays, goes_on}

-- what an entry has, and which kind it is
abbrev behind : Entry → ℕ
behind entries.End = 0
behind (entries.Form a b) = b
behind (entries.Term a b c n) = n
behind (entries.Then f n) = n

abbrev inner : Entry → ℕ
inner entries.End = 0
inner (entries.Form a b) = a
inner (entries.Term a b c n) = a
inner (entries.Then f n) = f

abbrev conds_at : Entry → ℕ
conds_at entries.End = 0
conds_at (entries.Form a b) = 0
conds_at (entries.Term a b c n) = b
conds_at (entries.Then f n) = 0

abbrev pieces_at : Entry → ℕ
pieces_at entries.End = 0
pieces_at (entries.Form a b) = 0
pieces_at (entries.Term a b c n) = c
pieces_at (entries.Then f n) = 0

abbrev kind : Entry → ℕ
kind entries.End = 0
kind (entries.Form a b) = 1
kind (entries.Term a b c n) = 2
kind (entries.Then f n) = 3

-- the same of a first element and of a condition
abbrev front_kind : Front → ℕ
front_kind (fronts.Part l k) = 0
front_kind (fronts.Leaf r) = 1
front_kind (fronts.Distinct f) = 2
front_kind (fronts.Piece v) = 3

abbrev letter : Front → ℕ
letter (fronts.Part l k) = l
letter (fronts.Leaf r) = r
letter (fronts.Distinct f) = f
letter (fronts.Piece v) = v

abbrev columns_in : Front → Columns
columns_in (fronts.Part l k) = k
columns_in (fronts.Leaf r) = columns.Whole
columns_in (fronts.Distinct f) = columns.Whole
columns_in (fronts.Piece v) = columns.Whole

abbrev test_kind : Test → ℕ
test_kind (tests.Pred p v) = 0
test_kind (tests.Join v w) = 1
test_kind (tests.In v f) = 2
test_kind (tests.NotIn v f) = 3

abbrev first_in : Test → ℕ
first_in (tests.Pred p v) = p
first_in (tests.Join v w) = w
first_in (tests.In v f) = f
first_in (tests.NotIn v f) = f

abbrev value_in : Test → ℕ
value_in (tests.Pred p v) = v
value_in (tests.Join v w) = v
value_in (tests.In v f) = v
value_in (tests.NotIn v f) = v

-- columns and expressions come back from their entries
abbrev cols_back : Columns → PartCols
cols_back columns.Whole = cols.Whole
cols_back (columns.List a) = cols.List a

cols_same : (c : PartCols) → cols_back (columns_of c) ≡ c
cols_same cols.Whole = refl
cols_same (cols.List a) = refl

abbrev expr_back : Value → Expr
expr_back (values.Of v i c) = exprs.Of v i (cols_back c)
expr_back (values.Null r c) = exprs.Null r (cols_back c)

expr_same : (x : Expr) → expr_back (value_of x) ≡ x
expr_same (exprs.Of v i c) = ap (exprs.Of v i) (cols_same c)
expr_same (exprs.Null r c) = ap (exprs.Null r) (cols_same c)

one_cols : (c d : PartCols) → columns_of c ≡ columns_of d → c ≡ d
one_cols c d e = sym (cols_same c) ∙ ap cols_back e ∙ cols_same d

one_expr : (x y : Expr) → value_of x ≡ value_of y → x ≡ y
one_expr x y e = sym (expr_same x) ∙ ap expr_back e ∙ expr_same y

pub goes_further : (T U V : Tables) → Goes T U → Goes U V → Goes T V
goes_further T U V g h = record { values = goes_on T.values U.values V.values g.values h.values; tests = goes_on T.tests U.tests V.tests g.tests h.tests; fronts = goes_on T.fronts U.fronts V.fronts g.fronts h.fronts; entries = goes_on T.entries U.entries V.entries g.entries h.entries }

-- numbers stay where the table goes on
module _ (T U : Tables) (goes : Goes T U) where
  pub entry_stays : (n : ℕ) (x : Entry) → First T.entries n x → First U.entries n x
  entry_stays n x = first_stays T.entries U.entries n x goes.entries

  then_stays : (n : ℕ) (x : Front) (after : ℕ) → Then T n x after → Then U n x after
  then_stays n x after h = (h.0, first_stays T.fronts U.fronts h.0 x goes.fronts h.1, entry_stays n _ h.2)

  tested_stays : (n : ℕ) (x : Test) (after : ℕ) → Tested T n x after → Tested U n x after
  tested_stays n x after h = (h.0, first_stays T.tests U.tests h.0 x goes.tests h.1, entry_stays n _ h.2)

  pub value_stays : (n : ℕ) (x : Value) → First T.values n x → First U.values n x
  value_stays n x = first_stays T.values U.values n x goes.values

  pub head_stays : (n : ℕ) (ps : List Part) → IsHead T n ps → IsHead U n ps
  head_stays n [] h = entry_stays n entries.End h
  head_stays n (p ∷ ps) h = (h.0, head_stays h.0 ps h.1, then_stays n _ h.0 h.2)

  pub pieces_stay : (n : ℕ) (xs : List Expr) → IsPieces T n xs → IsPieces U n xs
  pieces_stay n [] h = entry_stays n entries.End h
  pieces_stay n (x ∷ xs) h = (h.0, h.1, pieces_stay h.0 xs h.2, value_stays h.1 _ h.3, then_stays n _ h.0 h.4)

  mutual
    pub terms_stay : (n : ℕ) (ts : Terms) → IsTerms T n ts → IsTerms U n ts
    terms_stay n no_terms h = entry_stays n entries.End h
    terms_stay n (term_then rs cs ps ts) h = (h.0, h.1, h.2, h.3, ranges_stay h.0 rs h.4, conds_stay h.1 cs h.5, pieces_stay h.2 ps h.6, terms_stay h.3 ts h.7, entry_stays n _ h.8)

    pub ranges_stay : (n : ℕ) (rs : Ranges) → IsRanges T n rs → IsRanges U n rs
    ranges_stay n no_ranges h = entry_stays n entries.End h
    ranges_stay n (range_then r rs) h = (h.0, ranges_stay h.0 rs h.1, range_stays n r h.0 h.2)

    pub range_stays : (n : ℕ) (r : FormRange) (after : ℕ) → IsRange T n r after → IsRange U n r after
    range_stays n (Rel r) after h = then_stays n _ after h
    range_stays n (distinct_of head ts) after h = (h.0, h.1, h.2, head_stays h.0 head h.3, terms_stay h.1 ts h.4, entry_stays h.2 _ h.5, then_stays n _ after h.6)

    pub conds_stay : (n : ℕ) (cs : Conds) → IsConds T n cs → IsConds U n cs
    conds_stay n no_conds h = entry_stays n entries.End h
    conds_stay n (cond_then c cs) h = (h.0, conds_stay h.0 cs h.1, cond_stays n c h.0 h.2)

    pub cond_stays : (n : ℕ) (c : Cond) (after : ℕ) → IsCond T n c after → IsCond U n c after
    cond_stays n (Pred p x) after h = (h.0, value_stays h.0 _ h.1, tested_stays n _ after h.2)
    cond_stays n (Join x y) after h = (h.0, h.1, value_stays h.0 _ h.2, value_stays h.1 _ h.3, tested_stays n _ after h.4)
    cond_stays n (is_in x head ts) after h = (h.0, h.1, h.2, h.3, value_stays h.0 _ h.4, head_stays h.1 head h.5, terms_stay h.2 ts h.6, entry_stays h.3 _ h.7, tested_stays n _ after h.8)
    cond_stays n (not_in x head ts) after h = (h.0, h.1, h.2, h.3, value_stays h.0 _ h.4, head_stays h.1 head h.5, terms_stay h.2 ts h.6, entry_stays h.3 _ h.7, tested_stays n _ after h.8)

  pub form_stays : (n : ℕ) (f : Form) → IsForm T n f → IsForm U n f
  form_stays n f h = (h.0, h.1, head_stays h.0 f.head h.2, terms_stay h.1 f.terms h.3, entry_stays n _ h.4)

module _ (T : Tables) where
  -- a form has one number
  same_place : (m n : ℕ) (c d : Entry) → c ≡ d → First T.entries m c → First T.entries n d → m ≡ n
  same_place m n c d e h k = one_place T.entries m n c h (subst (First T.entries n) (sym e) k)

  same_then : (m n : ℕ) (x y : Front) (s t : ℕ) → x ≡ y → s ≡ t → Then T m x s → Then T n y t → m ≡ n
  same_then m n x y s t e f h k =
      let p : h.0 ≡ k.0 = one_place T.fronts h.0 k.0 x h.1 (subst (First T.fronts k.0) (sym e) k.1) in
      same_place m n (entries.Then h.0 s) (entries.Then k.0 t) (λ i. entries.Then (p i) (f i)) h.2 k.2

  same_tested : (m n : ℕ) (x y : Test) (s t : ℕ) → x ≡ y → s ≡ t → Tested T m x s → Tested T n y t → m ≡ n
  same_tested m n x y s t e f h k =
      let p : h.0 ≡ k.0 = one_place T.tests h.0 k.0 x h.1 (subst (First T.tests k.0) (sym e) k.1) in
      same_place m n (entries.Then h.0 s) (entries.Then k.0 t) (λ i. entries.Then (p i) (f i)) h.2 k.2

  one_head : (m n : ℕ) (ps : List Part) → IsHead T m ps → IsHead T n ps → m ≡ n
  one_head m n [] h k = one_place T.entries m n entries.End h k
  one_head m n (p ∷ ps) h k = same_then m n _ _ h.0 k.0 refl (one_head h.0 k.0 ps h.1 k.1) h.2 k.2

  one_pieces : (m n : ℕ) (xs : List Expr) → IsPieces T m xs → IsPieces T n xs → m ≡ n
  one_pieces m n [] h k = one_place T.entries m n entries.End h k
  one_pieces m n (x ∷ xs) h k = same_then m n _ _ h.0 k.0 (ap fronts.Piece (one_place T.values h.1 k.1 (value_of x) h.3 k.3)) (one_pieces h.0 k.0 xs h.2 k.2) h.4 k.4

  one_nested : (a a' b b' f f' : ℕ) → a ≡ a' → b ≡ b' → First T.entries f (entries.Form a b) → First T.entries f' (entries.Form a' b') → f ≡ f'
  one_nested a a' b b' f f' p q l l' = same_place f f' (entries.Form a b) (entries.Form a' b') (λ i. entries.Form (p i) (q i)) l l'

  mutual
    one_terms : (m n : ℕ) (ts : Terms) → IsTerms T m ts → IsTerms T n ts → m ≡ n
    one_terms m n no_terms h k = one_place T.entries m n entries.End h k
    one_terms m n (term_then rs cs ps ts) h k =
        let a = one_ranges h.0 k.0 rs h.4 k.4 in
        let b = one_conds h.1 k.1 cs h.5 k.5 in
        let c = one_pieces h.2 k.2 ps h.6 k.6 in
        let d = one_terms h.3 k.3 ts h.7 k.7 in
        same_place m n (entries.Term h.0 h.1 h.2 h.3) (entries.Term k.0 k.1 k.2 k.3) (λ i. entries.Term (a i) (b i) (c i) (d i)) h.8 k.8

    one_ranges : (m n : ℕ) (rs : Ranges) → IsRanges T m rs → IsRanges T n rs → m ≡ n
    one_ranges m n no_ranges h k = one_place T.entries m n entries.End h k
    one_ranges m n (range_then r rs) h k = one_range m n r h.0 k.0 (one_ranges h.0 k.0 rs h.1 k.1) h.2 k.2

    one_range : (m n : ℕ) (r : FormRange) (s t : ℕ) → s ≡ t → IsRange T m r s → IsRange T n r t → m ≡ n
    one_range m n (Rel r) s t e h k = same_then m n _ _ s t refl e h k
    one_range m n (distinct_of head ts) s t e h k =
        let f = one_nested h.0 k.0 h.1 k.1 h.2 k.2 (one_head h.0 k.0 head h.3 k.3) (one_terms h.1 k.1 ts h.4 k.4) h.5 k.5 in
        same_then m n (fronts.Distinct h.2) (fronts.Distinct k.2) s t (ap fronts.Distinct f) e h.6 k.6

    one_conds : (m n : ℕ) (cs : Conds) → IsConds T m cs → IsConds T n cs → m ≡ n
    one_conds m n no_conds h k = one_place T.entries m n entries.End h k
    one_conds m n (cond_then c cs) h k = one_cond m n c h.0 k.0 (one_conds h.0 k.0 cs h.1 k.1) h.2 k.2

    one_cond : (m n : ℕ) (c : Cond) (s t : ℕ) → s ≡ t → IsCond T m c s → IsCond T n c t → m ≡ n
    one_cond m n (Pred p x) s t e h k =
        let v = one_place T.values h.0 k.0 (value_of x) h.1 k.1 in
        same_tested m n (tests.Pred p h.0) (tests.Pred p k.0) s t (ap (tests.Pred p) v) e h.2 k.2
    one_cond m n (Join x y) s t e h k =
        let v = one_place T.values h.0 k.0 (value_of x) h.2 k.2 in
        let w = one_place T.values h.1 k.1 (value_of y) h.3 k.3 in
        same_tested m n (tests.Join h.0 h.1) (tests.Join k.0 k.1) s t (λ i. tests.Join (v i) (w i)) e h.4 k.4
    one_cond m n (is_in x head ts) s t e h k =
        let v = one_place T.values h.0 k.0 (value_of x) h.4 k.4 in
        let f = one_nested h.1 k.1 h.2 k.2 h.3 k.3 (one_head h.1 k.1 head h.5 k.5) (one_terms h.2 k.2 ts h.6 k.6) h.7 k.7 in
        same_tested m n (tests.In h.0 h.3) (tests.In k.0 k.3) s t (λ i. tests.In (v i) (f i)) e h.8 k.8
    one_cond m n (not_in x head ts) s t e h k =
        let v = one_place T.values h.0 k.0 (value_of x) h.4 k.4 in
        let f = one_nested h.1 k.1 h.2 k.2 h.3 k.3 (one_head h.1 k.1 head h.5 k.5) (one_terms h.2 k.2 ts h.6 k.6) h.7 k.7 in
        same_tested m n (tests.NotIn h.0 h.3) (tests.NotIn k.0 k.3) s t (λ i. tests.NotIn (v i) (f i)) e h.8 k.8

  pub one_number : (m n : ℕ) (f : Form) → IsForm T m f → IsForm T n f → m ≡ n
  one_number m n f h k = one_nested h.0 k.0 h.1 k.1 m n (one_head h.0 k.0 f.head h.2 k.2) (one_terms h.1 k.1 f.terms h.3 k.3) h.4 k.4

  -- a number has one form
  other_kind : {X : Type 0} (n : ℕ) (c d : Entry) → (kind c ≡ kind d → ⊥) → First T.entries n c → First T.entries n d → X
  other_kind n c d ne h k = absurd (ne (ap kind (one_entry T.entries n c d h k)))

  parts_of : (n : ℕ) (x y : Front) (s t : ℕ) → Then T n x s → Then T n y t → (x ≡ y) × (s ≡ t)
  parts_of n x y s t h k =
      let e = one_entry T.entries n (entries.Then h.0 s) (entries.Then k.0 t) h.2 k.2 in
      (one_entry T.fronts h.0 x y h.1 (subst (λ m. First T.fronts m y) (sym (ap inner e)) k.1), ap behind e)

  other_front : {X : Type 0} (n : ℕ) (x y : Front) (s t : ℕ) → (front_kind x ≡ front_kind y → ⊥) → Then T n x s → Then T n y t → X
  other_front n x y s t ne h k = absurd (ne (ap front_kind (parts_of n x y s t h k).0))

  test_parts : (n : ℕ) (x y : Test) (s t : ℕ) → Tested T n x s → Tested T n y t → (x ≡ y) × (s ≡ t)
  test_parts n x y s t h k =
      let e = one_entry T.entries n (entries.Then h.0 s) (entries.Then k.0 t) h.2 k.2 in
      (one_entry T.tests h.0 x y h.1 (subst (λ m. First T.tests m y) (sym (ap inner e)) k.1), ap behind e)

  other_test : {X : Type 0} (n : ℕ) (x y : Test) (s t : ℕ) → (test_kind x ≡ test_kind y → ⊥) → Tested T n x s → Tested T n y t → X
  other_test n x y s t ne h k = absurd (ne (ap test_kind (test_parts n x y s t h k).0))

  no_test_end : {X : Type 0} (n : ℕ) (x : Test) (s : ℕ) → Tested T n x s → First T.entries n entries.End → X
  no_test_end n x s h k = other_kind n _ _ (λ e. omega (arith, e)) h.2 k

  -- equal numbers of expressions are equal expressions
  value_parts : (v w : ℕ) (x y : Expr) → v ≡ w → First T.values v (value_of x) → First T.values w (value_of y) → x ≡ y
  value_parts v w x y e h k = one_expr x y (one_entry T.values v (value_of x) (value_of y) h (subst (λ m. First T.values m (value_of y)) (sym e) k))

  no_end : {X : Type 0} (n : ℕ) (x : Front) (s : ℕ) → Then T n x s → First T.entries n entries.End → X
  no_end n x s h k = other_kind n _ _ (λ e. omega (arith, e)) h.2 k

  same_head : (n : ℕ) (ps qs : List Part) → IsHead T n ps → IsHead T n qs → ps ≡ qs
  same_head n [] [] h k = refl
  same_head n [] (q ∷ qs) h k = no_end n _ k.0 k.2 h
  same_head n (p ∷ ps) [] h k = no_end n _ h.0 h.2 k
  same_head n (p ∷ ps) (q ∷ qs) h k =
      let e = parts_of n (fronts.Part p.leaf (columns_of p.cols)) (fronts.Part q.leaf (columns_of q.cols)) h.0 k.0 h.2 k.2 in
      let rest = same_head h.0 ps qs h.1 (subst (λ m. IsHead T m qs) (sym e.1) k.1) in
      let l : p.leaf ≡ q.leaf = ap letter e.0 in
      let c : p.cols ≡ q.cols = one_cols p.cols q.cols (ap columns_in e.0) in
      λ i. record { leaf = l i; cols = c i } ∷ rest i

  same_pieces : (n : ℕ) (xs ys : List Expr) → IsPieces T n xs → IsPieces T n ys → xs ≡ ys
  same_pieces n [] [] h k = refl
  same_pieces n [] (y ∷ ys) h k = no_end n _ k.0 k.4 h
  same_pieces n (x ∷ xs) [] h k = no_end n _ h.0 h.4 k
  same_pieces n (x ∷ xs) (y ∷ ys) h k =
      let e = parts_of n (fronts.Piece h.1) (fronts.Piece k.1) h.0 k.0 h.4 k.4 in
      let rest = same_pieces h.0 xs ys h.2 (subst (λ m. IsPieces T m ys) (sym e.1) k.2) in
      let v : x ≡ y = value_parts h.1 k.1 x y (ap letter e.0) h.3 k.3 in
      λ i. v i ∷ rest i

  nested_parts : (a a' b b' f f' : ℕ) → f ≡ f' → First T.entries f (entries.Form a b) → First T.entries f' (entries.Form a' b') → (a ≡ a') × (b ≡ b')
  nested_parts a a' b b' f f' e l l' =
      let c = one_entry T.entries f (entries.Form a b) (entries.Form a' b') l (subst (λ m. First T.entries m (entries.Form a' b')) (sym e) l') in
      (ap inner c, ap behind c)

  no_range : {X : Type 0} (n : ℕ) (r : FormRange) (s : ℕ) → IsRange T n r s → First T.entries n entries.End → X
  no_range n (Rel r) s h k = no_end n _ s h k
  no_range n (distinct_of head ts) s h k = no_end n _ s h.6 k

  no_cond : {X : Type 0} (n : ℕ) (c : Cond) (s : ℕ) → IsCond T n c s → First T.entries n entries.End → X
  no_cond n (Pred p x) s h k = no_test_end n _ s h.2 k
  no_cond n (Join x y) s h k = no_test_end n _ s h.4 k
  no_cond n (is_in x head ts) s h k = no_test_end n _ s h.8 k
  no_cond n (not_in x head ts) s h k = no_test_end n _ s h.8 k

  mutual
    same_terms : (n : ℕ) (ts us : Terms) → IsTerms T n ts → IsTerms T n us → ts ≡ us
    same_terms n no_terms no_terms h k = refl
    same_terms n no_terms (term_then rs cs ps ts) h k = other_kind n _ _ (λ e. omega (arith, e)) h k.8
    same_terms n (term_then rs cs ps ts) no_terms h k = other_kind n _ _ (λ e. omega (arith, e)) h.8 k
    same_terms n (term_then rs cs ps ts) (term_then rs' cs' ps' ts') h k =
        let e = one_entry T.entries n (entries.Term h.0 h.1 h.2 h.3) (entries.Term k.0 k.1 k.2 k.3) h.8 k.8 in
        let a = same_ranges h.0 rs rs' h.4 (subst (λ m. IsRanges T m rs') (sym (ap inner e)) k.4) in
        let b = same_conds h.1 cs cs' h.5 (subst (λ m. IsConds T m cs') (sym (ap conds_at e)) k.5) in
        let c = same_pieces h.2 ps ps' h.6 (subst (λ m. IsPieces T m ps') (sym (ap pieces_at e)) k.6) in
        let d = same_terms h.3 ts ts' h.7 (subst (λ m. IsTerms T m ts') (sym (ap behind e)) k.7) in
        λ i. term_then (a i) (b i) (c i) (d i)

    same_ranges : (n : ℕ) (rs ss : Ranges) → IsRanges T n rs → IsRanges T n ss → rs ≡ ss
    same_ranges n no_ranges no_ranges h k = refl
    same_ranges n no_ranges (range_then s ss) h k = no_range n s k.0 k.2 h
    same_ranges n (range_then r rs) no_ranges h k = no_range n r h.0 h.2 k
    same_ranges n (range_then r rs) (range_then s ss) h k =
        let p = same_range n r s h.0 k.0 h.2 k.2 in
        let rest = same_ranges h.0 rs ss h.1 (subst (λ m. IsRanges T m ss) (sym p.1) k.1) in
        let q = p.0 in
        λ i. range_then (q i) (rest i)

    same_range : (n : ℕ) (r q : FormRange) (s t : ℕ) → IsRange T n r s → IsRange T n q t → (r ≡ q) × (s ≡ t)
    same_range n (Rel r) (Rel q) s t h k = let e = parts_of n (fronts.Leaf r) (fronts.Leaf q) s t h k in (ap Rel (ap letter e.0), e.1)
    same_range n (Rel r) (distinct_of head ts) s t h k = other_front n _ _ s t (λ e. omega (arith, e)) h k.6
    same_range n (distinct_of head ts) (Rel q) s t h k = other_front n _ _ s t (λ e. omega (arith, e)) h.6 k
    same_range n (distinct_of head ts) (distinct_of head' ts') s t h k =
        let e = parts_of n (fronts.Distinct h.2) (fronts.Distinct k.2) s t h.6 k.6 in
        let p = nested_parts h.0 k.0 h.1 k.1 h.2 k.2 (ap letter e.0) h.5 k.5 in
        let a = same_head h.0 head head' h.3 (subst (λ m. IsHead T m head') (sym p.0) k.3) in
        let b = same_terms h.1 ts ts' h.4 (subst (λ m. IsTerms T m ts') (sym p.1) k.4) in
        (λ i. distinct_of (a i) (b i), e.1)

    same_conds : (n : ℕ) (cs ds : Conds) → IsConds T n cs → IsConds T n ds → cs ≡ ds
    same_conds n no_conds no_conds h k = refl
    same_conds n no_conds (cond_then d ds) h k = no_cond n d k.0 k.2 h
    same_conds n (cond_then c cs) no_conds h k = no_cond n c h.0 h.2 k
    same_conds n (cond_then c cs) (cond_then d ds) h k =
        let p = same_cond n c d h.0 k.0 h.2 k.2 in
        let rest = same_conds h.0 cs ds h.1 (subst (λ m. IsConds T m ds) (sym p.1) k.1) in
        let q = p.0 in
        λ i. cond_then (q i) (rest i)

    same_cond : (n : ℕ) (c d : Cond) (s t : ℕ) → IsCond T n c s → IsCond T n d t → (c ≡ d) × (s ≡ t)
    same_cond n (Pred p x) (Pred p' x') s t h k =
        let e = test_parts n (tests.Pred p h.0) (tests.Pred p' k.0) s t h.2 k.2 in
        let a : p ≡ p' = ap first_in e.0 in
        let b : x ≡ x' = value_parts h.0 k.0 x x' (ap value_in e.0) h.1 k.1 in
        (λ i. Pred (a i) (b i), e.1)
    same_cond n (Pred p x) (Join x' y') s t h k = other_test n _ _ s t (λ e. omega (arith, e)) h.2 k.4
    same_cond n (Pred p x) (is_in x' head' ts') s t h k = other_test n _ _ s t (λ e. omega (arith, e)) h.2 k.8
    same_cond n (Pred p x) (not_in x' head' ts') s t h k = other_test n _ _ s t (λ e. omega (arith, e)) h.2 k.8
    same_cond n (Join x y) (Pred p' x') s t h k = other_test n _ _ s t (λ e. omega (arith, e)) h.4 k.2
    same_cond n (Join x y) (Join x' y') s t h k =
        let e = test_parts n (tests.Join h.0 h.1) (tests.Join k.0 k.1) s t h.4 k.4 in
        let a : x ≡ x' = value_parts h.0 k.0 x x' (ap value_in e.0) h.2 k.2 in
        let b : y ≡ y' = value_parts h.1 k.1 y y' (ap first_in e.0) h.3 k.3 in
        (λ i. Join (a i) (b i), e.1)
    same_cond n (Join x y) (is_in x' head' ts') s t h k = other_test n _ _ s t (λ e. omega (arith, e)) h.4 k.8
    same_cond n (Join x y) (not_in x' head' ts') s t h k = other_test n _ _ s t (λ e. omega (arith, e)) h.4 k.8
    same_cond n (is_in x head ts) (Pred p' x') s t h k = other_test n _ _ s t (λ e. omega (arith, e)) h.8 k.2
    same_cond n (is_in x head ts) (Join x' y') s t h k = other_test n _ _ s t (λ e. omega (arith, e)) h.8 k.4
    same_cond n (is_in x head ts) (is_in x' head' ts') s t h k =
        let e = test_parts n (tests.In h.0 h.3) (tests.In k.0 k.3) s t h.8 k.8 in
        let c : x ≡ x' = value_parts h.0 k.0 x x' (ap value_in e.0) h.4 k.4 in
        let p = nested_parts h.1 k.1 h.2 k.2 h.3 k.3 (ap first_in e.0) h.7 k.7 in
        let a = same_head h.1 head head' h.5 (subst (λ m. IsHead T m head') (sym p.0) k.5) in
        let b = same_terms h.2 ts ts' h.6 (subst (λ m. IsTerms T m ts') (sym p.1) k.6) in
        (λ i. is_in (c i) (a i) (b i), e.1)
    same_cond n (is_in x head ts) (not_in x' head' ts') s t h k = other_test n _ _ s t (λ e. omega (arith, e)) h.8 k.8
    same_cond n (not_in x head ts) (Pred p' x') s t h k = other_test n _ _ s t (λ e. omega (arith, e)) h.8 k.2
    same_cond n (not_in x head ts) (Join x' y') s t h k = other_test n _ _ s t (λ e. omega (arith, e)) h.8 k.4
    same_cond n (not_in x head ts) (is_in x' head' ts') s t h k = other_test n _ _ s t (λ e. omega (arith, e)) h.8 k.8
    same_cond n (not_in x head ts) (not_in x' head' ts') s t h k =
        let e = test_parts n (tests.NotIn h.0 h.3) (tests.NotIn k.0 k.3) s t h.8 k.8 in
        let c : x ≡ x' = value_parts h.0 k.0 x x' (ap value_in e.0) h.4 k.4 in
        let p = nested_parts h.1 k.1 h.2 k.2 h.3 k.3 (ap first_in e.0) h.7 k.7 in
        let a = same_head h.1 head head' h.5 (subst (λ m. IsHead T m head') (sym p.0) k.5) in
        let b = same_terms h.2 ts ts' h.6 (subst (λ m. IsTerms T m ts') (sym p.1) k.6) in
        (λ i. not_in (c i) (a i) (b i), e.1)

  pub one_form : (n : ℕ) (f g : Form) → IsForm T n f → IsForm T n g → f ≡ g
  one_form n f g h k =
      let p = nested_parts h.0 k.0 h.1 k.1 n n refl h.4 k.4 in
      let a = same_head h.0 f.head g.head h.2 (subst (λ m. IsHead T m g.head) (sym p.0) k.2) in
      let b = same_terms h.1 f.terms g.terms h.3 (subst (λ m. IsTerms T m g.terms) (sym p.1) k.3) in
      λ i. record { head = a i; terms = b i }

-- what is told of an answer, in other words, where a fact is told beside it
pub told : {X Y : Type 0} (r : Result X Y) (P Q : X → Type 0) (G : Type 0) → ((x : X) → P x → G → Q x) → IfOk r P → OnOk r G → IfOk r Q
told (Ok x) P Q G f h g = f x h g
told (Err y) P Q G f h g = h

pub told_on : {X Y : Type 0} (r : Result X Y) (P Q : Type 0) → (P → Q) → OnOk r P → OnOk r Q
told_on (Ok x) P Q f h = f h
told_on (Err y) P Q f h = h

-- an element before a list, in the table that the call leaves
module _ (U V : Tables) (goes : Goes U V) where
  pub then_is : (n m : ℕ) (x : Front) (after : ℕ) → First U.fronts m x → First V.entries n (entries.Then m after) → Then V n x after
  then_is n m x after h k = (m, first_stays U.fronts V.fronts m x goes.fronts h, k)

  pub tested_is : (n m : ℕ) (x : Test) (after : ℕ) → First U.tests m x → First V.entries n (entries.Then m after) → Tested V n x after
  tested_is n m x after h k = (m, first_stays U.tests V.tests m x goes.tests h, k)

-- an element more in front of what an earlier table has
pub more_head : (U V : Tables) (n after : ℕ) (p : Part) (ps : List Part) → Goes U V → IsHead U after ps → Then V n (fronts.Part p.leaf (columns_of p.cols)) after → IsHead V n (p ∷ ps)
more_head U V n after p ps goes h k = (after, head_stays U V goes after ps h, k)

pub more_pieces : (T U V : Tables) (n after v : ℕ) (x : Expr) (xs : List Expr) → Goes T U → Goes U V → IsPieces T after xs → First U.values v (value_of x) → Then V n (fronts.Piece v) after → IsPieces V n (x ∷ xs)
more_pieces T U V n after v x xs g k h f t = (after, v, pieces_stay T V (goes_further T U V g k) after xs h, value_stays U V k v (value_of x) f, t)

pub more_terms : (T U V W X : Tables) (n a b c after : ℕ) (rs : Ranges) (cs : Conds) (ps : List Expr) (ts : Terms) → Goes T U → Goes U V → Goes V W → Goes W X →
    IsRanges T a rs → IsConds U b cs → IsPieces V c ps → IsTerms W after ts → First X.entries n (entries.Term a b c after) → IsTerms X n (term_then rs cs ps ts)
more_terms T U V W X n a b c after rs cs ps ts g h k l x y z w e =
    let vx = goes_further V W X k l in
    let ux = goes_further U V X h vx in
    (a, b, c, after, ranges_stay T X (goes_further T U X g ux) a rs x, conds_stay U X ux b cs y, pieces_stay V X vx c ps z, terms_stay W X l after ts w, e)

pub more_ranges : (U V : Tables) (n after : ℕ) (r : FormRange) (rs : Ranges) → Goes U V → IsRanges U after rs → IsRange V n r after → IsRanges V n (range_then r rs)
more_ranges U V n after r rs goes h k = (after, ranges_stay U V goes after rs h, k)

pub more_conds : (U V : Tables) (n after : ℕ) (c : Cond) (cs : Conds) → Goes U V → IsConds U after cs → IsCond V n c after → IsConds V n (cond_then c cs)
more_conds U V n after c cs goes h k = (after, conds_stay U V goes after cs h, k)

-- a nested form, made part by part, in the last table
module _ (U V W X : Tables) (g : Goes U V) (h : Goes V W) (k : Goes W X) (a b form : ℕ) (head : List Part) (ts : Terms) (is : IsHead U a head) (are : IsTerms V b ts) (first : First W.entries form (entries.Form a b)) where
  pub distinct_is : (n after : ℕ) → Then X n (fronts.Distinct form) after → IsRange X n (distinct_of head ts) after
  distinct_is n after e = (a, b, form, head_stays U X (goes_further U V X g (goes_further V W X h k)) a head is, terms_stay V X (goes_further V W X h k) b ts are, entry_stays W X k form (entries.Form a b) first, e)

  module _ (T : Tables) (f : Goes T U) (v : ℕ) (x : Expr) (valued : First T.values v (value_of x)) where
    pub in_is : (n after : ℕ) → Tested X n (tests.In v form) after → IsCond X n (is_in x head ts) after
    in_is n after e = (v, a, b, form, value_stays T X (goes_further T U X f (goes_further U V X g (goes_further V W X h k))) v (value_of x) valued, head_stays U X (goes_further U V X g (goes_further V W X h k)) a head is, terms_stay V X (goes_further V W X h k) b ts are, entry_stays W X k form (entries.Form a b) first, e)

    pub not_in_is : (n after : ℕ) → Tested X n (tests.NotIn v form) after → IsCond X n (not_in x head ts) after
    not_in_is n after e = (v, a, b, form, value_stays T X (goes_further T U X f (goes_further U V X g (goes_further V W X h k))) v (value_of x) valued, head_stays U X (goes_further U V X g (goes_further V W X h k)) a head is, terms_stay V X (goes_further V W X h k) b ts are, entry_stays W X k form (entries.Form a b) first, e)

-- one table after another
pub goes_twice : (T U V W : Tables) → Goes T U → Goes U V → Goes V W → Goes T W
goes_twice T U V W g h k = goes_further T U W g (goes_further U V W h k)

-- a list by its first element and the rest
pub head_tail : {X : Type 0} (xs : List X) (d : X) → 1 ≤ length xs → xs ≡ get_or xs 0 d ∷ take (length xs - 1) (drop 1 xs)
head_tail [] d l = let bad : ⊥ = omega (arith, l) in absurd bad
head_tail (x ∷ xs) d l = ap (λ ys. x ∷ ys) (sym (take_all (length (x ∷ xs) - 1) xs (omega arith)))
