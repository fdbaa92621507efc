-- The lines of a rule file, as bytes. Every piece is written as the file has it.
use Rattle.std.specs.Prelude.{ℕ, suc, ◌<◌, ◌==◌, List, [], ◌∷◌, ◌++◌, length, nat_lt, codes, if◌then◌else◌}
use Rattle.std.specs.List.{flat_map}
use Rattle.std.specs.Fmt.{decimal}
use Rattle.std.specs.Int.{bit_at}
use Rattle.wt_symbol.specs.Sides.{SideTree, input, proj, filtered, inner_join, left_join, in_sub, dedup, PairTree, pair_of, weight_of}
use Rattle.wt_symbol.specs.Heads.{anchor}
use Rattle.wt_constraint.specs.Atoms.{atoms_of_pair}
use Rattle.wt_constraint.specs.declared.atom.Atom.{Atom}
use Rattle.wt_constraint.specs.declared.atom.Atom.TheVariants.{RelEq, AttrsEq, PredEq, Unique, NotNull, RefAttrs}
use Rattle.wt_constraint.specs.declared.set.AtomSet.{AtomSet}
use Rattle.wt_rule.specs.declared.Rule.{Rule}

-- symbols: r0, a0, p0
abbrev pub leaf_text : ℕ → List ℕ
leaf_text r = codes "r" ++ decimal r

abbrev pub list_text : ℕ → List ℕ
list_text a = codes "a" ++ decimal a

abbrev pub pred_text : ℕ → List ℕ
pred_text p = codes "p" ++ decimal p

-- a list of the source with its anchor: a0@r0
abbrev pub anchored_text : List ℕ → ℕ → List ℕ
anchored_text anchors a = list_text a ++ (codes "@" ++ leaf_text (anchor anchors a))

-- a side, where `list` writes a list symbol
abbrev pub side_text : (ℕ → List ℕ) → SideTree → List ℕ
side_text list (input r) = leaf_text r
side_text list (proj a s) = codes "Proj<" ++ (list a ++ (codes ">(" ++ (side_text list s ++ codes ")")))
side_text list (filtered p a s) =
    codes "Filter<" ++ (pred_text p ++ (codes "," ++ (list a ++ (codes ">(" ++ (side_text list s ++ codes ")")))))
side_text list (inner_join a b s t) =
    codes "InnerJoin<"
    ++ (list a ++ (codes "," ++ (list b ++ (codes ">(" ++ (side_text list s ++ (codes "," ++ (side_text list t ++ codes ")")))))))
side_text list (left_join a b s t) =
    codes "LeftJoin<"
    ++ (list a ++ (codes "," ++ (list b ++ (codes ">(" ++ (side_text list s ++ (codes "," ++ (side_text list t ++ codes ")")))))))
side_text list (in_sub a s t) =
    codes "InSub<" ++ (list a ++ (codes ">(" ++ (side_text list s ++ (codes "," ++ (side_text list t ++ codes ")")))))
side_text list (dedup s) = codes "Dedup(" ++ (side_text list s ++ codes ")")

-- an atom; a list of it stands behind its anchor
abbrev pub atom_text : List ℕ → Atom → List ℕ
atom_text anchors (RelEq x y) = codes "RelEq(" ++ (leaf_text x ++ (codes "," ++ (leaf_text y ++ codes ")")))
atom_text anchors (AttrsEq x y) = codes "AttrsEq(" ++ (list_text x ++ (codes "," ++ (list_text y ++ codes ")")))
atom_text anchors (PredEq x y) = codes "PredEq(" ++ (pred_text x ++ (codes "," ++ (pred_text y ++ codes ")")))
atom_text anchors (Unique a) = codes "Unique(" ++ (leaf_text (anchor anchors a) ++ (codes "," ++ (list_text a ++ codes ")")))
atom_text anchors (NotNull a) = codes "NotNull(" ++ (leaf_text (anchor anchors a) ++ (codes "," ++ (list_text a ++ codes ")")))
atom_text anchors (RefAttrs a b) =
    codes "RefAttrs("
    ++ (leaf_text (anchor anchors a)
    ++ (codes "," ++ (list_text a ++ (codes "," ++ (leaf_text (anchor anchors b) ++ (codes "," ++ (list_text b ++ codes ")")))))))

-- the atoms of a set in their order, the first of the list having the number i
abbrev pub chosen : AtomSet → ℕ → List Atom → List Atom
chosen set i [] = []
chosen set i (atom ∷ atoms) = if bit_at set.0 i == 1 then atom ∷ chosen set (suc i) atoms else chosen set (suc i) atoms

-- atoms with a space between each two, or a dash for none
abbrev pub atoms_text : List ℕ → List Atom → List ℕ
atoms_text anchors [] = codes "-"
atoms_text anchors (atom ∷ atoms) = atom_text anchors atom ++ flat_map (λ next. codes " " ++ atom_text anchors next) atoms

-- a pair with a set of its atoms
abbrev pub rule_text : PairTree → AtomSet → List ℕ
rule_text p set =
    side_text (anchored_text p.anchors) p.source
    ++ (codes " => " ++ (side_text list_text p.dest ++ (codes " | " ++ atoms_text p.anchors (chosen set 0 (atoms_of_pair p)))))

-- the weights of its sides, and the line's end; 10 is LF
abbrev pub weights_text : PairTree → List ℕ
weights_text p = codes " | " ++ (decimal (weight_of p.source) ++ (codes " " ++ (decimal (weight_of p.dest) ++ (10 ∷ []))))

-- the line of a pair with a set of its atoms
abbrev pub line_of : PairTree → AtomSet → List ℕ
line_of p set = rule_text p set ++ weights_text p

-- the line of a rule
abbrev pub rule_line : Rule → List ℕ
rule_line rule = line_of (pair_of rule.pair) rule.set

-- the first line of a file whose rules are proved within so many steps
abbrev pub head_line : ℕ → List ℕ
head_line steps = codes "wetune-rules 2 steps=" ++ (decimal steps ++ (10 ∷ []))

-- the last line of a file of so many rules
abbrev pub end_line : ℕ → List ℕ
end_line count = codes "end " ++ (decimal count ++ (10 ∷ []))

-- a list symbol where some lists have a mark to write behind them: those below the length of the marks
abbrev pub marked_text : List ℕ → ℕ → List ℕ
marked_text marks a = if nat_lt a (length marks) then anchored_text marks a else list_text a

-- the lists that an atom names behind their anchors have one
abbrev pub HasListAnchors : List ℕ → Atom → Type 0
HasListAnchors anchors (RelEq x y) = Unit {0}
HasListAnchors anchors (AttrsEq x y) = Unit {0}
HasListAnchors anchors (PredEq x y) = Unit {0}
HasListAnchors anchors (Unique a) = a < length anchors
HasListAnchors anchors (NotNull a) = a < length anchors
HasListAnchors anchors (RefAttrs a b) = (a < length anchors) × (b < length anchors)
