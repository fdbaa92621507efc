-- The form of a side of a lawful pair has small expressions, and every chain of steps from it lowers the weight.
use Rattle.std.proofs.Common.{ℕ, zero, suc, ◌+◌, ◌*◌, ◌<◌, ◌≤◌, ◌≡◌, inl, inr, Bool, true, false, cond, List, [], ◌∷◌, ◌++◌, map, length, subst, arith, length-append}
use Rattle.std.specs.Prelude.{nat_eq, ◌==◌, ◌&&◌}
use Rattle.std.proofs.lemmas.Bool.{and_parts}
use Rattle.wt_bag.specs.Bags.{Each}
use Rattle.wt_bag.proofs.EachLaws.{each_append}
use Rattle.wt_symbol.specs.declared.head.Part.{Part}
use Rattle.wt_symbol.specs.declared.head.PartCols.TheVariants.{List as Listed}
use Rattle.wt_symbol.specs.Sides.{SideTree, input, proj, filtered, inner_join, left_join, in_sub, dedup, PairTree, leaves_of, lists_of, preds_of, size_of}
use Rattle.wt_symbol.specs.Lawful.{counts_up, all_in, is_numbered, uses_symbols_of, all_different, IsLawful}
use Rattle.wt_symbol.specs.Heads.{anchor, head_of}
use Rattle.wt_symbol.proofs.SymbolLemmas.{EachBelow, counted_below, among_below, lawful_sizes}
use Rattle.wt_form.specs.declared.form.Expr.{Expr}
use Rattle.wt_form.specs.declared.form.Expr.TheVariants.{Of, Null as NullOf}
use Rattle.wt_form.specs.Trees.{Terms, no_terms, term_then, Ranges, Conds, no_conds, cond_then, Cond, Pred, is_in, not_in, Form}
use Rattle.wt_form.specs.Parts.{conds_append, with_cond, conds_up, expr_up, ranges_count}
use Rattle.wt_form.specs.Known.{Known}
use Rattle.wt_form.specs.FormOf.{each_term, expr_with, list_expr, list_of, list_part, proj_term, cond_term, null_pieces, null_term, join_term, join_terms, part_pieces, side_terms, form_of}
use Rattle.wt_form.specs.Steps.{Step}
use Rattle.wt_form.specs.Provable.{Chain}
use Rattle.wt_form.specs.Weights.{IsSmall, IsSmallCols, EachExpr, EachInConds, EachInCond, Lighter, weight_of}
use Rattle.wt_form.proofs.Exprs.{terms_put, ranges_put, conds_put, conds_mapped, each_mapped, up_small}
use Rattle.wt_form.proofs.StaySmall.{TermSmall, terms_small}
use Rattle.wt_form.proofs.Weighing.{step_lowers}

below_split : (m : ℕ) (xs ys : List ℕ) → EachBelow m (xs ++ ys) → EachBelow m xs × EachBelow m ys
below_split m [] ys h = (tt, h)
below_split m (x ∷ xs) ys h = let rest = below_split m xs ys h.1 in ((h.0, rest.0), rest.1)

abbrev SmallPart : Part → Type 0
SmallPart h = IsSmallCols h.cols

each_term_small : (f : Ranges → Conds → List Expr → Terms) → ((rs : Ranges) (cs : Conds) (ps : List Expr) → TermSmall rs cs ps → EachExpr IsSmall (f rs cs ps)) → (ts : Terms) → EachExpr IsSmall ts → EachExpr IsSmall (each_term f ts)
each_term_small f q no_terms h = tt
each_term_small f q (term_then rs cs ps ts) h = terms_put IsSmall (f rs cs ps) (each_term f ts) (q rs cs ps h.0) (each_term_small f q ts h.1)

with_small : (p : Expr) (a : ℕ) → a < 63 → IsSmall p → IsSmall (expr_with p (Listed a))
with_small (Of v i d) a l h = (h.0, l)
with_small (NullOf r d) a l h = l

list_small : (hs : List Part) (ps : List Expr) (r a : ℕ) → a < 63 → Each IsSmall ps → IsSmall (list_expr hs ps r a)
list_small [] ps r a l h = l
list_small (p ∷ hs) [] r a l h = l
list_small (p ∷ hs) (x ∷ ps) r a l h = go (nat_eq p.leaf r) (list_small hs ps r a l h.1)
  where
    go : (b : Bool) → IsSmall (list_expr hs ps r a) → IsSmall (cond b (expr_with x (Listed a)) (list_expr hs ps r a))
    go true later = with_small x a l h.0
    go false later = later

conds_with : (cs : Conds) (c : Cond) → EachInConds IsSmall cs → EachInCond IsSmall c → EachInConds IsSmall (with_cond cs c)
conds_with cs c h k = conds_put IsSmall cs (cond_then c no_conds) h (k, tt)

heads_small : (s : SideTree) (A : List ℕ) → EachBelow 63 (lists_of s) → Each SmallPart (head_of s A)
heads_small (input r) A h = (tt, tt)
heads_small (proj a s) A h = (h.0, tt)
heads_small (filtered p a s) A h = heads_small s A h.1
heads_small (inner_join a b s t) A h = let q = below_split 63 (lists_of s) (lists_of t) h.1.1 in each_append SmallPart (head_of s A) (head_of t A) (heads_small s A q.0) (heads_small t A q.1)
heads_small (left_join a b s t) A h = let q = below_split 63 (lists_of s) (lists_of t) h.1.1 in each_append SmallPart (head_of s A) (head_of t A) (heads_small s A q.0) (heads_small t A q.1)
heads_small (in_sub a s t) A h = heads_small s A (below_split 63 (lists_of s) (lists_of t) h.1).0
heads_small (dedup s) A h = heads_small s A h

length-head : (s : SideTree) (A : List ℕ) → length (head_of s A) ≤ 1 + size_of s
length-head (input r) A = omega arith
length-head (proj a s) A = omega arith
length-head (filtered p a s) A = omega (arith, length-head s A)
length-head (inner_join a b s t) A = omega (arith, length-head s A, length-head t A, length-append (head_of s A) (head_of t A))
length-head (left_join a b s t) A = omega (arith, length-head s A, length-head t A, length-append (head_of s A) (head_of t A))
length-head (in_sub a s t) A = omega (arith, length-head s A)
length-head (dedup s) A = omega (arith, length-head s A)

parts_small : (i : ℕ) (hs : List Part) → i + length hs ≤ 64 → Each SmallPart hs → Each IsSmall (part_pieces i hs)
parts_small i [] l h = tt
parts_small i (p ∷ hs) l h = ((omega (arith, l), h.0), parts_small (suc i) hs (omega (arith, l)) h.1)

nulls_small : (hs : List Part) → Each SmallPart hs → Each IsSmall (null_pieces hs)
nulls_small [] h = tt
nulls_small (p ∷ hs) h = (h.0, nulls_small hs h.1)

null_small : (c : List Expr → Cond) (hs : List Part) (rs : Ranges) (cs : Conds) (ps : List Expr) → Each SmallPart hs → TermSmall rs cs ps → EachInCond IsSmall (c ps) → EachExpr IsSmall (null_term c hs rs cs ps)
null_small c hs rs cs ps k (r, q, p) here = ((r, conds_with cs (c ps) q here, each_append IsSmall ps (null_pieces hs) p (nulls_small hs k)), tt)

join_small : (e e' : List Expr → Expr) → ((ps : List Expr) → Each IsSmall ps → IsSmall (e ps)) → ((ps : List Expr) → Each IsSmall ps → IsSmall (e' ps)) → (ss ts : Terms) → EachExpr IsSmall ss → EachExpr IsSmall ts → EachExpr IsSmall (join_terms e e' ss ts)
join_small e e' q q' ss ts h k = each_term_small (λ rs cs ps. each_term (join_term e e' rs cs ps) ts) (λ rs cs ps t. each_term_small (join_term e e' rs cs ps) (λ rs' cs' ps' t'. one rs cs ps rs' cs' ps' t t') ts k) ss h
  where
    one : (rs : Ranges) (cs : Conds) (ps : List Expr) (rs' : Ranges) (cs' : Conds) (ps' : List Expr) → TermSmall rs cs ps → TermSmall rs' cs' ps' → EachExpr IsSmall (join_term e e' rs cs ps rs' cs' ps')
    one rs cs ps rs' cs' ps' (r, c, p) (r', c', p') = (
      (
        ranges_put IsSmall rs rs' r r',
        conds_with (conds_append cs (conds_up (ranges_count rs) cs')) _ (conds_put IsSmall cs (conds_up (ranges_count rs) cs') c (conds_mapped IsSmall (expr_up (ranges_count rs)) (up_small (ranges_count rs)) cs' c'))
            (q ps p, up_small (ranges_count rs) (e' ps') (q' ps' p')),
        each_append IsSmall ps (map (expr_up (ranges_count rs)) ps') p (each_mapped IsSmall (expr_up (ranges_count rs)) (up_small (ranges_count rs)) ps' p'),
      ),
      tt,
    )

pub side_small : (s : SideTree) (A : List ℕ) → EachBelow 63 (lists_of s) → size_of s ≤ 62 → EachExpr IsSmall (side_terms s A)
side_small (input r) A h l = (((tt, tt), tt, ((omega arith, tt), tt)), tt)
side_small (proj a s) A h l = each_term_small (proj_term (list_of (head_of s A) A a)) (λ rs cs ps t. ((t.0, t.1, (list_small (head_of s A) ps (anchor A a) a h.0 t.2, tt)), tt)) (side_terms s A) (side_small s A h.1 (omega (arith, l)))
side_small (filtered p a s) A h l = each_term_small (cond_term (λ ps. Pred p (list_of (head_of s A) A a ps)))
    (λ rs cs ps t. ((t.0, conds_with cs _ t.1 (list_small (head_of s A) ps (anchor A a) a h.0 t.2), t.2), tt)) (side_terms s A) (side_small s A h.1 (omega (arith, l)))
side_small (inner_join a b s t) A h l =
    let q = below_split 63 (lists_of s) (lists_of t) h.1.1 in
    join_small (list_of (head_of s A) A a) (list_of (head_of t A) A b) (λ ps k. list_small (head_of s A) ps (anchor A a) a h.0 k) (λ ps k. list_small (head_of t A) ps (anchor A b) b h.1.0 k)
    (side_terms s A) (side_terms t A) (side_small s A q.0 (omega (arith, l))) (side_small t A q.1 (omega (arith, l)))
side_small (left_join a b s t) A h l =
    let q = below_split 63 (lists_of s) (lists_of t) h.1.1 in
    let left = side_small s A q.0 (omega (arith, l)) in
    let right = side_small t A q.1 (omega (arith, l)) in
    let listed = each_term_small (proj_term (list_of (head_of t A) A b)) (λ rs cs ps t'. ((t'.0, t'.1, (list_small (head_of t A) ps (anchor A b) b h.1.0 t'.2, tt)), tt)) (side_terms t A) right in
    terms_put IsSmall _ _
    (join_small (list_of (head_of s A) A a) (list_of (head_of t A) A b) (λ ps k. list_small (head_of s A) ps (anchor A a) a h.0 k) (λ ps k. list_small (head_of t A) ps (anchor A b) b h.1.0 k)
    (side_terms s A) (side_terms t A) left right)
    (each_term_small (null_term (λ ps. not_in (list_of (head_of s A) A a ps) (list_part A b ∷ []) (each_term (proj_term (list_of (head_of t A) A b)) (side_terms t A))) (head_of t A))
    (λ rs cs ps t'. null_small (λ ps. not_in (list_of (head_of s A) A a ps) (list_part A b ∷ []) (each_term (proj_term (list_of (head_of t A) A b)) (side_terms t A))) (head_of t A) rs cs ps (heads_small t A q.1) t'
    (list_small (head_of s A) ps (anchor A a) a h.0 t'.2, listed)) (side_terms s A) left)
side_small (in_sub a s t) A h l =
    let q = below_split 63 (lists_of s) (lists_of t) h.1 in
    each_term_small (cond_term (λ ps. is_in (list_of (head_of s A) A a ps) (head_of t A) (side_terms t A)))
    (λ rs cs ps t'. ((t'.0, conds_with cs _ t'.1 (list_small (head_of s A) ps (anchor A a) a h.0 t'.2, side_small t A q.1 (omega (arith, l))), t'.2), tt)) (side_terms s A) (side_small s A q.0 (omega (arith, l)))
side_small (dedup s) A h l =
    (((side_small s A h (omega (arith, l)), tt), tt, parts_small 0 (head_of s A) (omega (arith, length-head s A, l)) (heads_small s A h)), tt)

chain_small : (K : Known) (k : ℕ) (f g : Form) → EachExpr IsSmall f.terms → Chain K k f g → EachExpr IsSmall g.terms
chain_small K zero f g h c = subst (λ x. EachExpr IsSmall x.terms) c h
chain_small K (suc k) f g h (inl e) = subst (λ x. EachExpr IsSmall x.terms) e h
chain_small K (suc k) f g h (inr (m, s, c)) = chain_small K k m g (terms_small K false f.terms m.terms h s.1) c

-- every list of a side of a lawful pair is small
length-lists : (s : SideTree) → length (lists_of s) ≤ 2 * size_of s
length-lists (input r) = omega arith
length-lists (proj a s) = omega (arith, length-lists s)
length-lists (filtered p a s) = omega (arith, length-lists s)
length-lists (inner_join a b s t) = omega (arith, length-lists s, length-lists t, length-append (lists_of s) (lists_of t))
length-lists (left_join a b s t) = omega (arith, length-lists s, length-lists t, length-append (lists_of s) (lists_of t))
length-lists (in_sub a s t) = omega (arith, length-lists s, length-lists t, length-append (lists_of s) (lists_of t))
length-lists (dedup s) = omega (arith, length-lists s)

parts3 : (a b c : Bool) → (a && b && c) ≡ true → (a ≡ true) × (b ≡ true) × (c ≡ true)
parts3 a b c h = let p = and_parts (a && b) c h in let q = and_parts a b p.0 in (q.0, q.1, p.1)

parts4 : (a b c d : Bool) → (a && b && c && d) ≡ true → (a ≡ true) × (b ≡ true) × (c ≡ true) × (d ≡ true)
parts4 a b c d h = let p = and_parts (a && b && c) d h in let q = parts3 a b c p.0 in (q.0, q.1, q.2, p.1)

module _ (p : PairTree) (lawful : IsLawful p) where
  symbols : (is_numbered p.source ≡ true) × ((length p.anchors == length (lists_of p.source)) ≡ true) × (uses_symbols_of p.source p.dest ≡ true) × (all_different (leaves_of p.dest) ≡ true)
  symbols = parts4 (is_numbered p.source) (length p.anchors == length (lists_of p.source)) (uses_symbols_of p.source p.dest) (all_different (leaves_of p.dest)) lawful.symbols

  source_below : EachBelow 63 (lists_of p.source)
  source_below =
      let up = (parts3 (counts_up 0 (leaves_of p.source)) (counts_up 0 (lists_of p.source)) (counts_up 0 (preds_of p.source)) symbols.0).1 in
      counted_below 63 0 (lists_of p.source) up (omega (arith, length-lists p.source, (lawful_sizes p lawful).0))

  dest_below : EachBelow 63 (lists_of p.dest)
  dest_below =
      let among = (parts3 (all_in (leaves_of p.source) (leaves_of p.dest)) (all_in (lists_of p.source) (lists_of p.dest)) (all_in (preds_of p.source) (preds_of p.dest)) symbols.2).1 in
      among_below 63 (lists_of p.source) (lists_of p.dest) source_below among

  -- a step of a form that a chain from the form of either side reaches lowers the weight
  pub source_lowers : (K : Known) (k : ℕ) (f g : Form) → Chain K k (form_of p.source p.anchors) f → Step K f g → Lighter (weight_of g) (weight_of f)
  source_lowers K k f g c s = step_lowers K f g (chain_small K k (form_of p.source p.anchors) f (side_small p.source p.anchors source_below (omega (arith, (lawful_sizes p lawful).0))) c) s

  pub dest_lowers : (K : Known) (k : ℕ) (f g : Form) → Chain K k (form_of p.dest p.anchors) f → Step K f g → Lighter (weight_of g) (weight_of f)
  dest_lowers K k f g c s = step_lowers K f g (chain_small K k (form_of p.dest p.anchors) f (side_small p.dest p.anchors dest_below (omega (arith, (lawful_sizes p lawful).1))) c) s
