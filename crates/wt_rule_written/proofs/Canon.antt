-- The sides of a pair as a line has them.
use Rattle.std.proofs.Common.{◌≡◌, ℕ, ◌<◌, Bool, true, false, List, [], ◌∷◌, ◌++◌, map, Some, None, refl, sym, ap, ◌∙◌, arith, append_assoc, append-nil}
use Rattle.std.specs.Prelude.{codes, slice_index}
use Rattle.std.specs.Fmt.{decimal}
use Rattle.std.proofs.lemmas.List.{map-append}
use Rattle.wt_symbol.specs.Sides as sides
use Rattle.wt_symbol.specs.Sides.{SideTree, PairTree, leaves_of, lists_of, preds_of, size_of, weight_of}
use Rattle.wt_symbol.specs.Heads.{anchor}
use Rattle.wt_rule.specs.Texts.{leaf_text, list_text, pred_text, anchored_text, side_text}
use Rattle.wt_rule_text.specs.declared.parsed.Listed.{Listed}
use Rattle.wt_rule_text.specs.declared.parsed.Unary.TheVariants.{Proj, Filter, Dedup}
use Rattle.wt_rule_text.specs.declared.parsed.Binary.TheVariants.{InnerJoin, LeftJoin, InSub}
use Rattle.wt_rule_text.specs.Trees.{SideText, input, one, two}
use Rattle.wt_rule_text.specs.Forms.{IsSymbol, IsList, IsSide}
use Rattle.wt_rule_line.specs.Pairs.{tree_of_text, anchors_of}
use Rattle.wt_rule_written.proofs.Decimals.{is_decimal}
use Rattle.wt_rule_written.proofs.Fine.{Small, small_proj, small_filter, small_join, small_left, small_in, small_dedup}

-- ---- symbols

pub symbol : (letter : List ℕ) (n : ℕ) → n < 256 → IsSymbol letter n (letter ++ decimal n)
symbol letter n small = record { digits = decimal n; number = is_decimal n (omega arith); is = refl }

abbrev pub marked : Bool → List ℕ → ℕ → Listed
marked true A a = record { list = a; anchor = Some (anchor A a) }
marked false A a = record { list = a; anchor = None }

pub with_anchor : (A : List ℕ) (a : ℕ) → a < 256 → anchor A a < 256 → IsList true (marked true A a) (anchored_text A a)
with_anchor A a small below = record {
  symbol = list_text a;
  anchor = codes "@" ++ leaf_text (anchor A a);
  is_symbol = symbol (codes "a") a small;
  is_anchor = (leaf_text (anchor A a), symbol (codes "r") (anchor A a) below, refl);
  is = refl;
}

pub without_anchor : (A : List ℕ) (a : ℕ) → a < 256 → IsList false (marked false A a) (list_text a)
without_anchor A a small = record { symbol = list_text a; anchor = []; is_symbol = symbol (codes "a") a small; is_anchor = refl; is = sym (append-nil (list_text a)) }

-- ---- sides

pub text_side : Bool → List ℕ → SideTree → SideText
text_side m A (sides.input r) = input r
text_side m A (sides.proj a s) = one (Proj (marked m A a)) (text_side m A s)
text_side m A (sides.filtered p a s) = one (Filter p (marked m A a)) (text_side m A s)
text_side m A (sides.inner_join a b s t) = two (InnerJoin (marked m A a) (marked m A b)) (text_side m A s) (text_side m A t)
text_side m A (sides.left_join a b s t) = two (LeftJoin (marked m A a) (marked m A b)) (text_side m A s) (text_side m A t)
text_side m A (sides.in_sub a s t) = two (InSub (marked m A a)) (text_side m A s) (text_side m A t)
text_side m A (sides.dedup s) = one Dedup (text_side m A s)

regroup : (o l k s : List ℕ) → o ++ (l ++ (k ++ s)) ≡ (o ++ (l ++ k)) ++ s
regroup o l k s = sym (append_assoc o (l ++ k) s ∙ ap (λ t. o ++ t) (append_assoc l k s))

module _ (m : Bool) (A : List ℕ) (list : ℕ → List ℕ) (each : (a : ℕ) → a < 256 → IsList m (marked m A a) (list a)) where
  five : (o p c l k s : List ℕ) → o ++ (p ++ (c ++ (l ++ (k ++ s)))) ≡ (o ++ (p ++ (c ++ (l ++ k)))) ++ s
  five o p c l k s =
      sym (append_assoc o (p ++ (c ++ (l ++ k))) s ∙ ap (λ t. o ++ t) (append_assoc p (c ++ (l ++ k)) s ∙ ap (λ t. p ++ t) (append_assoc c (l ++ k) s ∙ ap (λ t. c ++ t) (append_assoc l k s))))

  pub is_side : (t : SideTree) → Small t → IsSide m (text_side m A t) (side_text list t)
  unfolding text_side
  is_side (sides.input r) h = symbol (codes "r") r h.leaves.0
  is_side (sides.proj a s) h =
      let (small, rest) = small_proj a s h in
      (codes "Proj<" ++ (list a ++ codes ">("), side_text list s, (list a, each a small, refl), is_side s rest, regroup (codes "Proj<") (list a) (codes ">(") (side_text list s ++ codes ")"))
  is_side (sides.filtered p a s) h =
      let (first, small, rest) = small_filter p a s h in (
        codes "Filter<" ++ (pred_text p ++ (codes "," ++ (list a ++ codes ">("))),
        side_text list s,
        (pred_text p, list a, symbol (codes "p") p first, each a small, refl),
        is_side s rest,
        five (codes "Filter<") (pred_text p) (codes ",") (list a) (codes ">(") (side_text list s ++ codes ")"),
      )
  is_side (sides.inner_join a b s t) h =
      let (x, y, left, right) = small_join a b s t h in (
        codes "InnerJoin<" ++ (list a ++ (codes "," ++ (list b ++ codes ">("))),
        side_text list s,
        side_text list t,
        (list a ++ (codes "," ++ (list b ++ codes ">(")), (list a, list b, each a x, each b y, refl), refl),
        is_side s left,
        is_side t right,
        five (codes "InnerJoin<") (list a) (codes ",") (list b) (codes ">(") (side_text list s ++ (codes "," ++ (side_text list t ++ codes ")"))),
      )
  is_side (sides.left_join a b s t) h =
      let (x, y, left, right) = small_join a b s t (small_left a b s t h) in (
        codes "LeftJoin<" ++ (list a ++ (codes "," ++ (list b ++ codes ">("))),
        side_text list s,
        side_text list t,
        (list a ++ (codes "," ++ (list b ++ codes ">(")), (list a, list b, each a x, each b y, refl), refl),
        is_side s left,
        is_side t right,
        five (codes "LeftJoin<") (list a) (codes ",") (list b) (codes ">(") (side_text list s ++ (codes "," ++ (side_text list t ++ codes ")"))),
      )
  is_side (sides.in_sub a s t) h =
      let (x, left, right) = small_in a s t h in (
        codes "InSub<" ++ (list a ++ codes ">("),
        side_text list s,
        side_text list t,
        (list a, each a x, refl),
        is_side s left,
        is_side t right,
        regroup (codes "InSub<") (list a) (codes ">(") (side_text list s ++ (codes "," ++ (side_text list t ++ codes ")"))),
      )
  is_side (sides.dedup s) h = (codes "Dedup(", side_text list s, refl, is_side s (small_dedup s h), refl)

pub tree_back : (m : Bool) (A : List ℕ) (t : SideTree) → tree_of_text (text_side m A t) ≡ t
unfolding text_side
tree_back m A (sides.input r) = refl
tree_back true A (sides.proj a s) = ap (sides.proj a) (tree_back true A s)
tree_back false A (sides.proj a s) = ap (sides.proj a) (tree_back false A s)
tree_back true A (sides.filtered p a s) = ap (sides.filtered p a) (tree_back true A s)
tree_back false A (sides.filtered p a s) = ap (sides.filtered p a) (tree_back false A s)
tree_back true A (sides.inner_join a b s t) = ap (λ x. sides.inner_join a b x (tree_of_text (text_side true A t))) (tree_back true A s) ∙ ap (sides.inner_join a b s) (tree_back true A t)
tree_back false A (sides.inner_join a b s t) = ap (λ x. sides.inner_join a b x (tree_of_text (text_side false A t))) (tree_back false A s) ∙ ap (sides.inner_join a b s) (tree_back false A t)
tree_back true A (sides.left_join a b s t) = ap (λ x. sides.left_join a b x (tree_of_text (text_side true A t))) (tree_back true A s) ∙ ap (sides.left_join a b s) (tree_back true A t)
tree_back false A (sides.left_join a b s t) = ap (λ x. sides.left_join a b x (tree_of_text (text_side false A t))) (tree_back false A s) ∙ ap (sides.left_join a b s) (tree_back false A t)
tree_back true A (sides.in_sub a s t) = ap (λ x. sides.in_sub a x (tree_of_text (text_side true A t))) (tree_back true A s) ∙ ap (sides.in_sub a s) (tree_back true A t)
tree_back false A (sides.in_sub a s t) = ap (λ x. sides.in_sub a x (tree_of_text (text_side false A t))) (tree_back false A s) ∙ ap (sides.in_sub a s) (tree_back false A t)
tree_back m A (sides.dedup s) = ap sides.dedup (tree_back m A s)

pub anchors_back : (A : List ℕ) (t : SideTree) → anchors_of (text_side true A t) ≡ map (slice_index A) (lists_of t)
unfolding text_side
anchors_back A (sides.input r) = refl
anchors_back A (sides.proj a s) = ap (λ l. slice_index A a ∷ l) (anchors_back A s)
anchors_back A (sides.filtered p a s) = ap (λ l. slice_index A a ∷ l) (anchors_back A s)
anchors_back A (sides.inner_join a b s t) =
    ap (λ l. slice_index A a ∷ slice_index A b ∷ l) (ap (λ l. l ++ anchors_of (text_side true A t)) (anchors_back A s) ∙ ap (λ l. map (slice_index A) (lists_of s) ++ l) (anchors_back A t) ∙ sym (map-append (slice_index A) (lists_of s) (lists_of t)))
anchors_back A (sides.left_join a b s t) =
    ap (λ l. slice_index A a ∷ slice_index A b ∷ l) (ap (λ l. l ++ anchors_of (text_side true A t)) (anchors_back A s) ∙ ap (λ l. map (slice_index A) (lists_of s) ++ l) (anchors_back A t) ∙ sym (map-append (slice_index A) (lists_of s) (lists_of t)))
anchors_back A (sides.in_sub a s t) =
    ap (λ l. slice_index A a ∷ l) (ap (λ l. l ++ anchors_of (text_side true A t)) (anchors_back A s) ∙ ap (λ l. map (slice_index A) (lists_of s) ++ l) (anchors_back A t) ∙ sym (map-append (slice_index A) (lists_of s) (lists_of t)))
anchors_back A (sides.dedup s) = anchors_back A s
