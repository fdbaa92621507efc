-- The line of a lawful rule states it.
use Rattle.std.proofs.Common.{◌≡◌, ℕ, ◌^◌, ◌<◌, true, false, List, [], ◌∷◌, ◌++◌, map, length, Some, refl, sym, ap, ◌∙◌, arith, append_assoc}
use Rattle.std.specs.Prelude.{codes}
use Rattle.std.specs.List.{flat_map}
use Rattle.std.specs.Fmt.{decimal}
use Rattle.wt_bag.specs.Bags.{Each}
use Rattle.wt_symbol.specs.Sides.{PairTree, weight_of}
use Rattle.wt_symbol.specs.Lawful.{IsLawful}
use Rattle.wt_symbol.specs.Heads.{anchor}
use Rattle.wt_symbol.proofs.SymbolLemmas.{lawful_sizes}
use Rattle.wt_constraint.specs.declared.atom.Atom.{Atom}
use Rattle.wt_constraint.specs.declared.atom.Atom.TheVariants.{RelEq, AttrsEq, PredEq, Unique, NotNull, RefAttrs}
use Rattle.wt_constraint.specs.declared.set.AtomSet.{AtomSet}
use Rattle.wt_constraint.specs.Atoms.{atoms_of_pair}
use Rattle.wt_rule.specs.Texts.{leaf_text, list_text, pred_text, anchored_text, side_text, atom_text, atoms_text, chosen, rule_text}
use Rattle.wt_rule_text.specs.declared.parsed.Version.TheVariants.{Two}
use Rattle.wt_rule_text.specs.Trees.{RuleText}
use Rattle.wt_rule_text.specs.Forms.{IsAtom, AreMore, AreAtoms}
use Rattle.wt_rule_line.specs.Pairs.{tree_of_text, anchors_of}
use Rattle.wt_rule_line.specs.Sets.{as_written}
use Rattle.wt_rule_line.specs.Lines.{States}
use Rattle.wt_rule_written.proofs.Decimals.{is_decimal}
use Rattle.wt_rule_written.proofs.Fine.{SmallAtom, chosen_small}
use Rattle.wt_rule_written.proofs.Canon.{symbol, with_anchor, without_anchor, text_side, is_side, tree_back, anchors_back}
use Rattle.wt_rule_written.proofs.Smallness.{source_small, dest_small, anchors_small, all_anchors, all_small, weight-le}

-- ---- atoms

eight : (o a c k d b l e : List ℕ) → o ++ (a ++ (c ++ (k ++ (d ++ (b ++ (c ++ (l ++ e))))))) ≡ o ++ ((a ++ (c ++ k)) ++ (d ++ ((b ++ (c ++ l)) ++ e)))
eight o a c k d b l e =
    sym (ap (λ t. o ++ t) (append_assoc a (c ++ k) _ ∙ ap (λ t. a ++ t) (append_assoc c k _ ∙ ap (λ t. c ++ (k ++ (d ++ t))) (append_assoc b (c ++ l) e ∙ ap (λ t. b ++ t) (append_assoc c l e)))))

is_atom : (A : List ℕ) (x : Atom) → SmallAtom A x → IsAtom (as_written A x) (atom_text A x)
is_atom A (RelEq x y) h = (leaf_text x, leaf_text y, symbol (codes "r") x h.0, symbol (codes "r") y h.1, refl)
is_atom A (AttrsEq x y) h = (list_text x, list_text y, symbol (codes "a") x h.0, symbol (codes "a") y h.1, refl)
is_atom A (PredEq x y) h = (pred_text x, pred_text y, symbol (codes "p") x h.0, symbol (codes "p") y h.1, refl)
is_atom A (Unique a) h = (leaf_text (anchor A a), list_text a, symbol (codes "r") (anchor A a) h.1, symbol (codes "a") a h.0, refl)
is_atom A (NotNull a) h = (leaf_text (anchor A a), list_text a, symbol (codes "r") (anchor A a) h.1, symbol (codes "a") a h.0, refl)
is_atom A (RefAttrs a b) h = (
  leaf_text (anchor A a) ++ (codes "," ++ list_text a),
  leaf_text (anchor A b) ++ (codes "," ++ list_text b),
  (leaf_text (anchor A a), list_text a, symbol (codes "r") (anchor A a) h.1, symbol (codes "a") a h.0, refl),
  (leaf_text (anchor A b), list_text b, symbol (codes "r") (anchor A b) h.3, symbol (codes "a") b h.2, refl),
  eight (codes "RefAttrs(") (leaf_text (anchor A a)) (codes ",") (list_text a) (codes ",") (leaf_text (anchor A b)) (list_text b) (codes ")"),
)

are_more : (A : List ℕ) (xs : List Atom) → Each (SmallAtom A) xs → AreMore (map (as_written A) xs) (flat_map (λ next. codes " " ++ atom_text A next) xs)
are_more A [] h = refl
are_more A (x ∷ xs) h = (atom_text A x, flat_map (λ next. codes " " ++ atom_text A next) xs, is_atom A x h.0, are_more A xs h.1, append_assoc (codes " ") (atom_text A x) _)

are_atoms : (A : List ℕ) (xs : List Atom) → Each (SmallAtom A) xs → AreAtoms (map (as_written A) xs) (atoms_text A xs)
are_atoms A [] h = refl
are_atoms A (x ∷ xs) h = (atom_text A x, flat_map (λ next. codes " " ++ atom_text A next) xs, is_atom A x h.0, are_more A xs h.1, refl)

-- ---- the line

four : (s a d b t w : List ℕ) → (s ++ (a ++ (d ++ (b ++ t)))) ++ w ≡ s ++ (a ++ (d ++ (b ++ (t ++ w))))
four s a d b t w = append_assoc s _ w ∙ ap (λ x. s ++ x) (append_assoc a _ w ∙ ap (λ x. a ++ x) (append_assoc d _ w ∙ ap (λ x. d ++ x) (append_assoc b t w)))

pair_back : (p : PairTree) → IsLawful p → record { source = tree_of_text (text_side true p.anchors p.source); dest = tree_of_text (text_side false [] p.dest); anchors = anchors_of (text_side true p.anchors p.source) } ≡ p
pair_back p lawful =
    ap (λ s. record { source = s; dest = tree_of_text (text_side false [] p.dest); anchors = anchors_of (text_side true p.anchors p.source) }) (tree_back true p.anchors p.source)
    ∙ ap (λ d. record { source = p.source; dest = d; anchors = anchors_of (text_side true p.anchors p.source) }) (tree_back false [] p.dest)
    ∙ ap (λ a. record { source = p.source; dest = p.dest; anchors = a }) (anchors_back p.anchors p.source ∙ all_anchors p lawful)

-- the line of a rule, without its LF
abbrev pub text_of : PairTree → AtomSet → List ℕ
text_of p set = rule_text p set ++ (codes " | " ++ (decimal (weight_of p.source) ++ (codes " " ++ decimal (weight_of p.dest))))

canon : PairTree → AtomSet → RuleText
canon p set = record {
  source = text_side true p.anchors p.source;
  dest = text_side false [] p.dest;
  atoms = map (as_written p.anchors) (chosen set 0 (atoms_of_pair p));
  weights = Some (record { source = weight_of p.source; dest = weight_of p.dest });
}

pub stated : (p : PairTree) (set : AtomSet) → IsLawful p → set.0 < 2 ^ length (atoms_of_pair p) → States Two (text_of p set) p set
unfolding canon
stated p set lawful within =
    let sizes = lawful_sizes p lawful in
    let small = chosen_small (SmallAtom p.anchors) set 0 (atoms_of_pair p) (all_small p.anchors (anchors_small p lawful) p.source (source_small p lawful)) in
    record {
      text = canon p set;
      is_line = record {
        source = side_text (anchored_text p.anchors) p.source;
        dest = side_text list_text p.dest;
        atoms = atoms_text p.anchors (chosen set 0 (atoms_of_pair p));
        weights = codes " | " ++ (decimal (weight_of p.source) ++ (codes " " ++ decimal (weight_of p.dest)));
        is_source = is_side true p.anchors (anchored_text p.anchors) (λ a l. with_anchor p.anchors a l (anchors_small p lawful a)) p.source (source_small p lawful);
        is_dest = is_side false [] list_text (λ a l. without_anchor [] a l) p.dest (dest_small p lawful);
        are_atoms = are_atoms p.anchors (chosen set 0 (atoms_of_pair p)) small.0;
        is_stated = (decimal (weight_of p.source), decimal (weight_of p.dest), is_decimal (weight_of p.source) (omega (arith, weight-le p.source, sizes.0)), is_decimal (weight_of p.dest) (omega (arith, weight-le p.dest, sizes.1)), refl);
        is = four (side_text (anchored_text p.anchors) p.source) (codes " => ") (side_text list_text p.dest) (codes " | ") (atoms_text p.anchors (chosen set 0 (atoms_of_pair p))) _;
      };
      is_rule = record {
        pair = pair_back p lawful;
        lawful = lawful;
        atoms = record { within = within; atoms = refl };
        weights = (refl, refl);
      };
    }
