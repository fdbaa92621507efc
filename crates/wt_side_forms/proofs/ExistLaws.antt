-- The expressions of the form of a side name variables of their own terms alone.
use Rattle.std.proofs.Common.{ℕ, suc, ◌+◌, ◌≤◌, Bool, true, false, cond, List, [], ◌∷◌, map, arith}
use Rattle.std.specs.Prelude.{nat_eq}
use Rattle.wt_bag.specs.Bags.{Each}
use Rattle.wt_bag.proofs.EachLaws.{each_append}
use Rattle.wt_symbol.specs.declared.head.Part.{Part}
use Rattle.wt_symbol.specs.declared.head.PartCols.TheVariants.{List as Listed}
use Rattle.wt_symbol.specs.Sides.{SideTree, input, proj, filtered, inner_join, left_join, in_sub, dedup}
use Rattle.wt_symbol.specs.Heads.{anchor, head_of}
use Rattle.wt_form.specs.declared.form.Expr.{Expr}
use Rattle.wt_form.specs.declared.form.Expr.TheVariants.{Of, Null as NullOf}
use Rattle.wt_form.specs.Trees.{Terms, no_terms, term_then, Ranges, Conds, no_conds, cond_then, Cond, Pred, Join, is_in, not_in}
use Rattle.wt_form.specs.Parts.{ranges_append, conds_append, with_cond, conds_up, expr_up, ranges_count}
use Rattle.wt_form.specs.FormOf.{each_term, expr_with, list_expr, list_of, list_part, proj_term, cond_term, null_pieces, null_term, join_term, join_terms, part_pieces, side_terms}
use Rattle.wt_form.specs.Closed.{IsWithin, VariablesExist, ExistInRanges, ExistInConds, ExistInCond}
use Rattle.wt_stay.proofs.Within.{terms_put, ranges_put, count_append, conds_put, conds_mapped, each_mapped, within_more, up_within}

-- a term's expressions name its own variables
abbrev TermExists : Ranges → Conds → List Expr → Type 0
TermExists rs cs ps = ExistInRanges rs × ExistInConds (ranges_count rs) cs × Each (IsWithin (ranges_count rs)) ps

each_term_exists : (f : Ranges → Conds → List Expr → Terms) → ((rs : Ranges) (cs : Conds) (ps : List Expr) → TermExists rs cs ps → VariablesExist (f rs cs ps)) → (ts : Terms) → VariablesExist ts → VariablesExist (each_term f ts)
each_term_exists f q no_terms h = tt
each_term_exists f q (term_then rs cs ps ts) h = terms_put (f rs cs ps) (each_term f ts) (q rs cs ps h.0) (each_term_exists f q ts h.1)

with_within : (n : ℕ) (p : Expr) (a : ℕ) → IsWithin n p → IsWithin n (expr_with p (Listed a))
with_within n (Of v i d) a h = h
with_within n (NullOf r d) a h = tt

list_within : (n : ℕ) (hs : List Part) (ps : List Expr) (r a : ℕ) → Each (IsWithin n) ps → IsWithin n (list_expr hs ps r a)
list_within n [] ps r a h = tt
list_within n (p ∷ hs) [] r a h = tt
list_within n (p ∷ hs) (x ∷ ps) r a h = go (nat_eq p.leaf r) (list_within n hs ps r a h.1)
  where
    go : (b : Bool) → IsWithin n (list_expr hs ps r a) → IsWithin n (cond b (expr_with x (Listed a)) (list_expr hs ps r a))
    go true later = with_within n x a h.0
    go false later = later

conds_with : (n : ℕ) (cs : Conds) (c : Cond) → ExistInConds n cs → ExistInCond n c → ExistInConds n (with_cond cs c)
conds_with n cs c h k = conds_put n cs (cond_then c no_conds) h (k, tt)

parts_within : (i : ℕ) (hs : List Part) → Each (IsWithin 1) (part_pieces i hs)
parts_within i [] = tt
parts_within i (p ∷ hs) = (omega arith, parts_within (suc i) hs)

nulls_within : (n : ℕ) (hs : List Part) → Each (IsWithin n) (null_pieces hs)
nulls_within n [] = tt
nulls_within n (p ∷ hs) = (tt, nulls_within n hs)

proj_exists : (hs : List Part) (A : List ℕ) (a : ℕ) (ts : Terms) → VariablesExist ts → VariablesExist (each_term (proj_term (list_of hs A a)) ts)
proj_exists hs A a ts = each_term_exists (proj_term (list_of hs A a)) (λ rs cs ps h. ((h.0, h.1, (list_within (ranges_count rs) hs ps (anchor A a) a h.2, tt)), tt)) ts

cond_exists : (c : List Expr → Cond) → ((n : ℕ) (ps : List Expr) → Each (IsWithin n) ps → ExistInCond n (c ps)) → (ts : Terms) → VariablesExist ts → VariablesExist (each_term (cond_term c) ts)
cond_exists c k ts = each_term_exists (cond_term c) (λ rs cs ps h. ((h.0, conds_with (ranges_count rs) cs (c ps) h.1 (k (ranges_count rs) ps h.2), h.2), tt)) ts

null_exists : (c : List Expr → Cond) (hs : List Part) → ((n : ℕ) (ps : List Expr) → Each (IsWithin n) ps → ExistInCond n (c ps)) → (ts : Terms) → VariablesExist ts → VariablesExist (each_term (null_term c hs) ts)
null_exists c hs k ts =
    each_term_exists (null_term c hs)
    (λ rs cs ps h. ((h.0, conds_with (ranges_count rs) cs (c ps) h.1 (k (ranges_count rs) ps h.2), each_append (IsWithin (ranges_count rs)) ps (null_pieces hs) h.2 (nulls_within (ranges_count rs) hs)), tt)) ts

-- a left and a right term put together
joined_exists : (e e' : List Expr → Expr) → ((n : ℕ) (ps : List Expr) → Each (IsWithin n) ps → IsWithin n (e ps)) → ((n : ℕ) (ps : List Expr) → Each (IsWithin n) ps → IsWithin n (e' ps)) →
    (rs : Ranges) (cs : Conds) (ps : List Expr) → TermExists rs cs ps → (rs' : Ranges) (cs' : Conds) (ps' : List Expr) → TermExists rs' cs' ps' → VariablesExist (join_term e e' rs cs ps rs' cs' ps')
joined_exists e e' q q' rs cs ps (r, c, p) rs' cs' ps' (r', c', p') =
    let k = ranges_count rs in
    let m = ranges_count rs' in
    let n = ranges_count (ranges_append rs rs') in
    let count = count_append rs rs' in
    let low : k ≤ n = omega (arith, count) in
    let up : k + m ≤ n = omega (arith, count) in
    let keep : (x : Expr) → IsWithin k x → IsWithin n x = within_more k n low in
    let raise : (x : Expr) → IsWithin m x → IsWithin n (expr_up k x) = up_within k m n up in
    let left : ExistInConds n cs = conds_kept k n low cs c in
    let right : ExistInConds n (conds_up k cs') = conds_mapped m n (expr_up k) raise cs' c' in
    let join : ExistInCond n (Join (e ps) (expr_up k (e' ps'))) = (keep (e ps) (q k ps p), raise (e' ps') (q' m ps' p')) in (
      (
        ranges_put rs rs' r r',
        conds_with n (conds_append cs (conds_up k cs')) (Join (e ps) (expr_up k (e' ps'))) (conds_put n cs (conds_up k cs') left right) join,
        each_append (IsWithin n) ps (map (expr_up k) ps') (each_kept k n low ps p) (each_mapped m n (expr_up k) raise ps' p'),
      ),
      tt,
    )
  where
    each_kept : (k n : ℕ) → k ≤ n → (xs : List Expr) → Each (IsWithin k) xs → Each (IsWithin n) xs
    each_kept k n l [] h = tt
    each_kept k n l (x ∷ xs) h = (within_more k n l x h.0, each_kept k n l xs h.1)

    cond_kept : (k n : ℕ) → k ≤ n → (c : Cond) → ExistInCond k c → ExistInCond n c
    cond_kept k n l (Pred p x) h = within_more k n l x h
    cond_kept k n l (Join x y) h = (within_more k n l x h.0, within_more k n l y h.1)
    cond_kept k n l (is_in x g ts) h = (within_more k n l x h.0, h.1)
    cond_kept k n l (not_in x g ts) h = (within_more k n l x h.0, h.1)

    conds_kept : (k n : ℕ) → k ≤ n → (cs : Conds) → ExistInConds k cs → ExistInConds n cs
    conds_kept k n l no_conds h = tt
    conds_kept k n l (cond_then c cs) h = (cond_kept k n l c h.0, conds_kept k n l cs h.1)

joins_exist : (hs gs : List Part) (A : List ℕ) (a b : ℕ) (ss ts : Terms) → VariablesExist ss → VariablesExist ts → VariablesExist (join_terms (list_of hs A a) (list_of gs A b) ss ts)
joins_exist hs gs A a b ss ts h k =
    let e = list_of hs A a in
    let e' = list_of gs A b in
    each_term_exists (λ rs cs ps. each_term (join_term e e' rs cs ps) ts)
    (λ rs cs ps t. each_term_exists (join_term e e' rs cs ps)
    (λ rs' cs' ps' u. joined_exists e e' (λ n qs w. list_within n hs qs (anchor A a) a w) (λ n qs w. list_within n gs qs (anchor A b) b w) rs cs ps t rs' cs' ps' u) ts k) ss h

pub sides_exist : (s : SideTree) (A : List ℕ) → VariablesExist (side_terms s A)
sides_exist (input r) A = (((tt, tt), tt, (omega arith, tt)), tt)
sides_exist (proj a s) A = proj_exists (head_of s A) A a (side_terms s A) (sides_exist s A)
sides_exist (filtered p a s) A = cond_exists (λ ps. Pred p (list_of (head_of s A) A a ps)) (λ n ps h. list_within n (head_of s A) ps (anchor A a) a h) (side_terms s A) (sides_exist s A)
sides_exist (inner_join a b s t) A = joins_exist (head_of s A) (head_of t A) A a b (side_terms s A) (side_terms t A) (sides_exist s A) (sides_exist t A)
sides_exist (left_join a b s t) A =
    let there = sides_exist s A in
    let rows = proj_exists (head_of t A) A b (side_terms t A) (sides_exist t A) in
    terms_put _ _ (joins_exist (head_of s A) (head_of t A) A a b (side_terms s A) (side_terms t A) there (sides_exist t A))
    (null_exists (λ ps. not_in (list_of (head_of s A) A a ps) (list_part A b ∷ []) (each_term (proj_term (list_of (head_of t A) A b)) (side_terms t A))) (head_of t A) (λ n ps h. (list_within n (head_of s A) ps (anchor A a) a h, rows)) (side_terms s A) there)
sides_exist (in_sub a s t) A = cond_exists (λ ps. is_in (list_of (head_of s A) A a ps) (head_of t A) (side_terms t A)) (λ n ps h. (list_within n (head_of s A) ps (anchor A a) a h, sides_exist t A)) (side_terms s A) (sides_exist s A)
sides_exist (dedup s) A = (((sides_exist s A, tt), tt, parts_within 0 (head_of s A)), tt)
