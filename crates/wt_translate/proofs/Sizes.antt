-- The form of a small side has few variables, so terms can be joined.
use Rattle.std.proofs.Common.{ℕ, suc, ◌+◌, ◌^◌, ◌<◌, ◌≤◌, Bool, true, false, cond, List, [], ◌∷◌, map, length, ◌≡◌, refl, ap, subst, arith, length-append}
use Rattle.std.specs.Prelude.{nat_eq}
use Rattle.wt_bag.specs.Bags.{Each}
use Rattle.wt_bag.proofs.EachLaws.{each_append, each_implies}
use Rattle.wt_symbol.specs.declared.head.Part.{Part}
use Rattle.wt_symbol.specs.declared.head.PartCols.TheVariants.{List as Listed}
use Rattle.wt_symbol.specs.Sides.{SideTree, input, proj, filtered, inner_join, left_join, in_sub, dedup, size_of}
use Rattle.wt_symbol.specs.Heads.{anchor, head_of}
use Rattle.wt_form.specs.declared.form.Expr.{Expr}
use Rattle.wt_form.specs.declared.form.Expr.TheVariants.{Of, Null as NullOf}
use Rattle.wt_form.specs.Trees.{Terms, no_terms, term_then, Ranges, no_ranges, range_then, Conds, no_conds, cond_then, Cond, Pred, Join, is_in, not_in}
use Rattle.wt_form.specs.Parts.{terms_append, ranges_append, conds_append, cond_map, conds_up, expr_up, ranges_count}
use Rattle.wt_form.specs.FormOf.{each_term, expr_with, list_expr, list_of, list_part, proj_term, cond_term, null_pieces, null_term, join_term, join_terms, part_pieces, side_terms}
use Rattle.wt_translate.specs.Bounds.{CanRise, CondRises, CondsRise, TermsRise, CanJoin}

-- the variable is below n
abbrev Below : ℕ → Expr → Type 0
Below n (Of v i c) = v < n
Below n (NullOf r c) = Unit {0}

abbrev CondBelow : ℕ → Cond → Type 0
CondBelow n (Pred p x) = Below n x
CondBelow n (Join x y) = Below n x × Below n y
CondBelow n (is_in x h ts) = Below n x
CondBelow n (not_in x h ts) = Below n x

abbrev CondsBelow : ℕ → Conds → Type 0
CondsBelow n no_conds = Unit {0}
CondsBelow n (cond_then c cs) = CondBelow n c × CondsBelow n cs

-- a term has at most n variables, and its expressions are over them
abbrev TermBelow : ℕ → Ranges → Conds → List Expr → Type 0
TermBelow n rs cs ps = (ranges_count rs ≤ n) × CondsBelow n cs × Each (Below n) ps

abbrev TermsBelow : ℕ → Terms → Type 0
TermsBelow n no_terms = Unit {0}
TermsBelow n (term_then rs cs ps ts) = TermBelow n rs cs ps × TermsBelow n ts

below_more : (m n : ℕ) → m ≤ n → (x : Expr) → Below m x → Below n x
below_more m n l (Of v i c) h = omega (arith, l, h)
below_more m n l (NullOf r c) h = tt

cond_more : (m n : ℕ) → m ≤ n → (c : Cond) → CondBelow m c → CondBelow n c
cond_more m n l (Pred p x) h = below_more m n l x h
cond_more m n l (Join x y) h = (below_more m n l x h.0, below_more m n l y h.1)
cond_more m n l (is_in x k ts) h = below_more m n l x h
cond_more m n l (not_in x k ts) h = below_more m n l x h

conds_more : (m n : ℕ) → m ≤ n → (cs : Conds) → CondsBelow m cs → CondsBelow n cs
conds_more m n l no_conds h = tt
conds_more m n l (cond_then c cs) h = (cond_more m n l c h.0, conds_more m n l cs h.1)

pieces_more : (m n : ℕ) → m ≤ n → (ps : List Expr) → Each (Below m) ps → Each (Below n) ps
pieces_more m n l ps h = each_implies (Below m) (Below n) ps (below_more m n l) h

up_below : (k m n : ℕ) → k + m ≤ n → (x : Expr) → Below m x → Below n (expr_up k x)
up_below k m n l (Of v i c) h = omega (arith, l, h)
up_below k m n l (NullOf r c) h = tt

cond_up : (k m n : ℕ) → k + m ≤ n → (c : Cond) → CondBelow m c → CondBelow n (cond_map (expr_up k) c)
cond_up k m n l (Pred p x) h = up_below k m n l x h
cond_up k m n l (Join x y) h = (up_below k m n l x h.0, up_below k m n l y h.1)
cond_up k m n l (is_in x g ts) h = up_below k m n l x h
cond_up k m n l (not_in x g ts) h = up_below k m n l x h

conds_up_below : (k m n : ℕ) → k + m ≤ n → (cs : Conds) → CondsBelow m cs → CondsBelow n (conds_up k cs)
conds_up_below k m n l no_conds h = tt
conds_up_below k m n l (cond_then c cs) h = (cond_up k m n l c h.0, conds_up_below k m n l cs h.1)

pieces_up : (k m n : ℕ) → k + m ≤ n → (ps : List Expr) → Each (Below m) ps → Each (Below n) (map (expr_up k) ps)
pieces_up k m n l [] h = tt
pieces_up k m n l (x ∷ ps) h = (up_below k m n l x h.0, pieces_up k m n l ps h.1)

conds_put : (n : ℕ) (cs ds : Conds) → CondsBelow n cs → CondsBelow n ds → CondsBelow n (conds_append cs ds)
conds_put n no_conds ds h k = k
conds_put n (cond_then c cs) ds h k = (h.0, conds_put n cs ds h.1 k)

terms_put : (n : ℕ) (ts us : Terms) → TermsBelow n ts → TermsBelow n us → TermsBelow n (terms_append ts us)
terms_put n no_terms us h k = k
terms_put n (term_then rs cs ps ts) us h k = (h.0, terms_put n ts us h.1 k)

each_below : (m n : ℕ) (f : Ranges → Conds → List Expr → Terms) → ((rs : Ranges) (cs : Conds) (ps : List Expr) → TermBelow m rs cs ps → TermsBelow n (f rs cs ps)) → (ts : Terms) → TermsBelow m ts → TermsBelow n (each_term f ts)
each_below m n f q no_terms h = tt
each_below m n f q (term_then rs cs ps ts) h = terms_put n (f rs cs ps) (each_term f ts) (q rs cs ps h.0) (each_below m n f q ts h.1)

with_below : (n : ℕ) (x : Expr) (a : ℕ) → Below n x → Below n (expr_with x (Listed a))
with_below n (Of v i c) a h = h
with_below n (NullOf r c) a h = tt

list_below : (n : ℕ) (hs : List Part) (ps : List Expr) (r a : ℕ) → Each (Below n) ps → Below n (list_expr hs ps r a)
list_below n [] ps r a h = tt
list_below n (p ∷ hs) [] r a h = tt
list_below n (p ∷ hs) (x ∷ ps) r a h = go (nat_eq p.leaf r) (list_below n hs ps r a h.1)
  where
    go : (b : Bool) → Below n (list_expr hs ps r a) → Below n (cond b (expr_with x (Listed a)) (list_expr hs ps r a))
    go true later = with_below n x a h.0
    go false later = later

count-append : (rs ss : Ranges) → ranges_count (ranges_append rs ss) ≡ ranges_count rs + ranges_count ss
count-append no_ranges ss = omega arith
count-append (range_then r rs) ss = omega (arith, count-append rs ss)

nulls_below : (n : ℕ) (hs : List Part) → Each (Below n) (null_pieces hs)
nulls_below n [] = tt
nulls_below n (h ∷ hs) = (tt, nulls_below n hs)

parts_below : (i : ℕ) (hs : List Part) → Each (Below 1) (part_pieces i hs)
parts_below i [] = tt
parts_below i (h ∷ hs) = (omega arith, parts_below (suc i) hs)

one_join : (m n : ℕ) (e e' : List Expr → Expr) → ((k : ℕ) (ps : List Expr) → Each (Below k) ps → Below k (e ps)) → ((k : ℕ) (ps : List Expr) → Each (Below k) ps → Below k (e' ps)) →
    (rs : Ranges) (cs : Conds) (ps : List Expr) (rs' : Ranges) (cs' : Conds) (ps' : List Expr) → TermBelow m rs cs ps → TermBelow n rs' cs' ps' → TermsBelow (m + n) (join_term e e' rs cs ps rs' cs' ps')
one_join m n e e' q q' rs cs ps rs' cs' ps' (l, c, p) (l', c', p') =
    let k = ranges_count rs in
    let up : k + n ≤ m + n = omega (arith, l) in
    let left : m ≤ m + n = omega arith in
    let sum : ranges_count (ranges_append rs rs') ≤ m + n = omega (arith, count-append rs rs', l, l') in (
      (
        sum,
        conds_put (m + n) (conds_append cs (conds_up k cs')) _ (conds_put (m + n) cs (conds_up k cs') (conds_more m (m + n) left cs c) (conds_up_below k n (m + n) up cs' c'))
            ((below_more m (m + n) left (e ps) (q m ps p), up_below k n (m + n) up (e' ps') (q' n ps' p')), tt),
        each_append (Below (m + n)) ps (map (expr_up k) ps') (pieces_more m (m + n) left ps p) (pieces_up k n (m + n) up ps' p'),
      ),
      tt,
    )

join_below : (s t : SideTree) (A : List ℕ) (a b : ℕ) → TermsBelow (1 + size_of s) (side_terms s A) → TermsBelow (1 + size_of t) (side_terms t A) →
    TermsBelow (1 + size_of s + (1 + size_of t)) (join_terms (list_of (head_of s A) A a) (list_of (head_of t A) A b) (side_terms s A) (side_terms t A))
join_below s t A a b h k =
    each_below (1 + size_of s) (1 + size_of s + (1 + size_of t)) (λ rs cs ps. each_term (join_term (list_of (head_of s A) A a) (list_of (head_of t A) A b) rs cs ps) (side_terms t A))
    (λ rs cs ps u. each_below (1 + size_of t) (1 + size_of s + (1 + size_of t)) (join_term (list_of (head_of s A) A a) (list_of (head_of t A) A b) rs cs ps)
    (λ rs' cs' ps' v. one_join (1 + size_of s) (1 + size_of t) (list_of (head_of s A) A a) (list_of (head_of t A) A b) (λ n ps w. list_below n (head_of s A) ps (anchor A a) a w) (λ n ps w. list_below n (head_of t A) ps (anchor A b) b w) rs cs ps rs' cs' ps' u v)
    (side_terms t A) k) (side_terms s A) h

-- a side's terms have at most as many variables as it has inputs
pub side_below : (s : SideTree) (A : List ℕ) → TermsBelow (1 + size_of s) (side_terms s A)
side_below (input r) A = ((omega arith, tt, (omega arith, tt)), tt)
side_below (proj a s) A = each_below (1 + size_of s) (1 + (1 + size_of s)) (proj_term (list_of (head_of s A) A a))
    (λ rs cs ps t. let l : 1 + size_of s ≤ 1 + (1 + size_of s) = omega arith in
    ((omega (arith, t.0), conds_more _ _ l cs t.1, (below_more _ _ l _ (list_below (1 + size_of s) (head_of s A) ps (anchor A a) a t.2), tt)), tt)) (side_terms s A) (side_below s A)
side_below (filtered p a s) A = each_below (1 + size_of s) (1 + (1 + size_of s)) (cond_term (λ ps. Pred p (list_of (head_of s A) A a ps)))
    (λ rs cs ps t. let l : 1 + size_of s ≤ 1 + (1 + size_of s) = omega arith in
    ((omega (arith, t.0), conds_put _ cs _ (conds_more _ _ l cs t.1) (below_more _ _ l _ (list_below (1 + size_of s) (head_of s A) ps (anchor A a) a t.2), tt), pieces_more _ _ l ps t.2), tt)) (side_terms s A) (side_below s A)
side_below (inner_join a b s t) A = subst (λ n. TermsBelow n (join_terms (list_of (head_of s A) A a) (list_of (head_of t A) A b) (side_terms s A) (side_terms t A)))
    (let z : 1 + size_of s + (1 + size_of t) ≡ 1 + (1 + size_of s + size_of t) = omega arith in z) (join_below s t A a b (side_below s A) (side_below t A))
side_below (left_join a b s t) A = terms_put (1 + (1 + size_of s + size_of t)) _ _
    (subst (λ n. TermsBelow n (join_terms (list_of (head_of s A) A a) (list_of (head_of t A) A b) (side_terms s A) (side_terms t A)))
    (let z : 1 + size_of s + (1 + size_of t) ≡ 1 + (1 + size_of s + size_of t) = omega arith in z) (join_below s t A a b (side_below s A) (side_below t A)))
    (each_below (1 + size_of s) (1 + (1 + size_of s + size_of t)) (null_term (λ ps. not_in (list_of (head_of s A) A a ps) (list_part A b ∷ []) (each_term (proj_term (list_of (head_of t A) A b)) (side_terms t A))) (head_of t A))
    (λ rs cs ps u. let l : 1 + size_of s ≤ 1 + (1 + size_of s + size_of t) = omega arith in (
      (
        omega (arith, u.0),
        conds_put _ cs _ (conds_more _ _ l cs u.1) (below_more _ _ l _ (list_below (1 + size_of s) (head_of s A) ps (anchor A a) a u.2), tt),
        each_append (Below (1 + (1 + size_of s + size_of t))) ps (null_pieces (head_of t A)) (pieces_more _ _ l ps u.2) (nulls_below _ (head_of t A)),
      ),
      tt,
    )) (side_terms s A) (side_below s A))
side_below (in_sub a s t) A = each_below (1 + size_of s) (1 + (1 + size_of s + size_of t)) (cond_term (λ ps. is_in (list_of (head_of s A) A a ps) (head_of t A) (side_terms t A)))
    (λ rs cs ps u. let l : 1 + size_of s ≤ 1 + (1 + size_of s + size_of t) = omega arith in
    ((omega (arith, u.0), conds_put _ cs _ (conds_more _ _ l cs u.1) (below_more _ _ l _ (list_below (1 + size_of s) (head_of s A) ps (anchor A a) a u.2), tt), pieces_more _ _ l ps u.2), tt)) (side_terms s A) (side_below s A)
side_below (dedup s) A = ((omega arith, tt, pieces_more 1 (1 + (1 + size_of s)) (omega arith) (part_pieces 0 (head_of s A)) (parts_below 0 (head_of s A))), tt)

-- ---- so the terms of two small sides can be joined

rise : (k n : ℕ) → k + n ≤ 2 ^ 32 → (x : Expr) → Below n x → CanRise k x
rise k n l (Of v i c) h = omega (arith, l, h)
rise k n l (NullOf r c) h = tt

cond_rises : (k n : ℕ) → k + n ≤ 2 ^ 32 → (c : Cond) → CondBelow n c → CondRises k c
cond_rises k n l (Pred p x) h = rise k n l x h
cond_rises k n l (Join x y) h = (rise k n l x h.0, rise k n l y h.1)
cond_rises k n l (is_in x g ts) h = rise k n l x h
cond_rises k n l (not_in x g ts) h = rise k n l x h

conds_rise : (k n : ℕ) → k + n ≤ 2 ^ 32 → (cs : Conds) → CondsBelow n cs → CondsRise k cs
conds_rise k n l no_conds h = tt
conds_rise k n l (cond_then c cs) h = (cond_rises k n l c h.0, conds_rise k n l cs h.1)

terms_rise : (k n : ℕ) → k + n ≤ 2 ^ 32 → (ts : Terms) → TermsBelow n ts → TermsRise k ts
terms_rise k n l no_terms h = tt
terms_rise k n l (term_then rs cs ps ts) h = ((conds_rise k n l cs h.0.1, each_implies (Below n) (CanRise k) ps (rise k n l) h.0.2), terms_rise k n l ts h.1)

can_join : (m n : ℕ) → m + n ≤ 2 ^ 32 → 1 ≤ n → (ts us : Terms) → TermsBelow m ts → TermsBelow n us → CanJoin ts us
can_join m n l some no_terms us h k = tt
can_join m n l some (term_then rs cs ps ts) us h k = ((omega (arith, l, some, h.0.0), terms_rise (ranges_count rs) n (omega (arith, l, h.0.0)) us k), can_join m n l some ts us h.1 k)

-- the sizes stand in equations, as a program has them
pub sides_join : (s t : SideTree) (A : List ℕ) (n : ℕ) (ts us : Terms) → n < 2 ^ 31 → 1 + size_of s + size_of t ≡ n → ts ≡ side_terms s A → us ≡ side_terms t A → CanJoin ts us
sides_join s t A n ts us l e p q =
    rw (p, q) (can_join (1 + size_of s) (1 + size_of t) (omega (arith, l, e)) (omega arith) (side_terms s A) (side_terms t A) (side_below s A) (side_below t A))

length-head : (s : SideTree) (A : List ℕ) → length (head_of s A) ≤ 1 + size_of s
length-head (input r) A = omega arith
length-head (proj a s) A = omega arith
length-head (filtered p a s) A = omega (arith, length-head s A)
length-head (inner_join a b s t) A = omega (arith, length-head s A, length-head t A, length-append (head_of s A) (head_of t A))
length-head (left_join a b s t) A = omega (arith, length-head s A, length-head t A, length-append (head_of s A) (head_of t A))
length-head (in_sub a s t) A = omega (arith, length-head s A)
length-head (dedup s) A = omega (arith, length-head s A)

pub head_short : (s : SideTree) (A : List ℕ) (n : ℕ) (hs : List Part) → n < 2 ^ 31 → 1 + size_of s ≡ n → hs ≡ head_of s A → length hs < 2 ^ 32
head_short s A n hs l e q = omega (arith, l, e, ap length q, length-head s A)

pub inner_size : (t s s' u u' : SideTree) (a b : ℕ) → t ≡ inner_join a b s u → s' ≡ s → u' ≡ u → 1 + size_of s' + size_of u' ≡ size_of t
inner_size t s s' u u' a b e f g = rw (e, f, g) refl

pub left_size : (t s s' u u' : SideTree) (a b : ℕ) → t ≡ left_join a b s u → s' ≡ s → u' ≡ u → 1 + size_of s' + size_of u' ≡ size_of t
left_size t s s' u u' a b e f g = rw (e, f, g) refl

pub dedup_size : (t s s' : SideTree) → t ≡ dedup s → s' ≡ s → 1 + size_of s' ≡ size_of t
dedup_size t s s' e f = rw (e, f) refl
