-- Lists that grow at the front.
use Rattle.std.proofs.Common.{◌≡◌, ◌⊎◌, inl, inr, List, [], ◌∷◌, ◌++◌, refl, ap, sym, ◌∙◌, append-nil, append_assoc}
use Rattle.wt_ast.specs.Private.{from_back}
use Rattle.wt_ast.specs.declared.marks.Mark.{Mark}
use Rattle.wt_ast.specs.declared.tree.Condition.{Condition}
use Rattle.wt_ast.specs.Tree.{CondTrees, no_conds, cond_then, condition_tree, condition_trees}

-- conditions, and others behind them
abbrev pub before : List Condition → CondTrees → CondTrees
before [] others = others
before (c ∷ cs) others = cond_then (condition_tree c) (before cs others)

pub before_none : (cs : List Condition) → before cs no_conds ≡ condition_trees cs
before_none [] = refl
before_none (c ∷ cs) = ap (cond_then (condition_tree c)) (before_none cs)

pub before_last : (cs : List Condition) (c : Condition) (others : CondTrees) → before (cs ++ c ∷ []) others ≡ before cs (cond_then (condition_tree c) others)
before_last [] c others = refl
before_last (x ∷ cs) c others = ap (cond_then (condition_tree x)) (before_last cs c others)

pub from_back_last : (xss : List (List Mark)) (xs : List Mark) → from_back (xss ++ xs ∷ []) ≡ xs ++ from_back xss
from_back_last [] xs = sym (append-nil xs)
from_back_last (ys ∷ xss) xs = ap (λ l. l ++ ys) (from_back_last xss xs) ∙ append_assoc xs (from_back xss) ys

-- the marks of a join, where those of its right side and its condition were put behind
pub joined_behind : (left joined : List Mark) (behind grown : List (List Mark)) → grown ≡ behind ++ joined ∷ []
    → left ++ from_back grown ≡ (left ++ joined) ++ from_back behind
joined_behind left joined behind grown e =
    ap (λ l. left ++ from_back l) e ∙ ap (λ l. left ++ l) (from_back_last behind joined) ∙ sym (append_assoc left joined (from_back behind))

-- what follows from each of three cases
pub one_of_three : {A B C P : Type 0} → A ⊎ (B ⊎ C) → (A → P) → (B → P) → (C → P) → P
one_of_three (inl a) f g h = f a
one_of_three (inr (inl b)) f g h = g b
one_of_three (inr (inr c)) f g h = h c
