-- The pair that a rule's line states, with numbers of any size.
use Rattle.std.specs.Prelude.{◌≡◌, ℕ, min, List, [], ◌++◌, Some, Result, Ok, Err}
use Rattle.std.specs.Option.{option_to_list}
use Rattle.wt_symbol.specs.declared.side.Pair.{Pair}
use Rattle.wt_symbol.specs.declared.fault.PairFault.{PairFault}
use Rattle.wt_symbol.specs.declared.fault.PairFault.TheVariants as pairs
use Rattle.wt_symbol.specs.Sides as sides
use Rattle.wt_symbol.specs.Sides.{SideTree, PairTree, pair_of}
use Rattle.wt_symbol.specs.Lawful.{IsLawful, fault_of}
use Rattle.wt_rule_text.specs.declared.parsed.Unary.TheVariants.{Proj, Filter, Dedup}
use Rattle.wt_rule_text.specs.declared.parsed.Binary.TheVariants.{InnerJoin, LeftJoin, InSub}
use Rattle.wt_rule_text.specs.Trees.{SideText, input, one, two, RuleText}
use Rattle.wt_rule_line.specs.declared.fault.RuleFault.{RuleFault}
use Rattle.wt_rule_line.specs.declared.fault.RuleFault.TheVariants.{Symbol, TooLong, Anchor, Weight, Root}
use Rattle.wt_rule_line.specs.declared.fault.RuleLineError.{RuleLineError}
use Rattle.wt_rule_line.specs.declared.fault.RuleLineError.TheVariants.{Fault, Memory}

-- the side without its anchors
abbrev pub tree_of_text : SideText → SideTree
tree_of_text (input r) = sides.input r
tree_of_text (one (Proj a) s) = sides.proj a.list (tree_of_text s)
tree_of_text (one (Filter p a) s) = sides.filtered p a.list (tree_of_text s)
tree_of_text (one Dedup s) = sides.dedup (tree_of_text s)
tree_of_text (two (InnerJoin a b) s t) = sides.inner_join a.list b.list (tree_of_text s) (tree_of_text t)
tree_of_text (two (LeftJoin a b) s t) = sides.left_join a.list b.list (tree_of_text s) (tree_of_text t)
tree_of_text (two (InSub a) s t) = sides.in_sub a.list (tree_of_text s) (tree_of_text t)

-- the anchors of its lists, in the order of the lists
abbrev pub anchors_of : SideText → List ℕ
anchors_of (input r) = []
anchors_of (one (Proj a) s) = option_to_list a.anchor ++ anchors_of s
anchors_of (one (Filter p a) s) = option_to_list a.anchor ++ anchors_of s
anchors_of (one Dedup s) = anchors_of s
anchors_of (two (InnerJoin a b) s t) = option_to_list a.anchor ++ (option_to_list b.anchor ++ (anchors_of s ++ anchors_of t))
anchors_of (two (LeftJoin a b) s t) = option_to_list a.anchor ++ (option_to_list b.anchor ++ (anchors_of s ++ anchors_of t))
anchors_of (two (InSub a) s t) = option_to_list a.anchor ++ (anchors_of s ++ anchors_of t)

-- the pair
abbrev pub pair_of_text : RuleText → PairTree
pair_of_text r = record { source = tree_of_text r.source; dest = tree_of_text r.dest; anchors = anchors_of r.source }

-- the name of a fault of a pair
abbrev pub fault_name : PairFault → RuleFault
fault_name pairs.Symbol = Symbol
fault_name pairs.Size = TooLong
fault_name pairs.Anchor = Anchor
fault_name pairs.Weight = Weight
fault_name pairs.Root = Root

-- the pair of the rule, which is lawful, or the first fault of a pair that is not
abbrev pub MakesPair : RuleText → Result Pair RuleLineError → Type 0
MakesPair r (Ok pair) = IsLawful (pair_of_text r) × (pair_of pair ≡ pair_of_text r)
MakesPair r (Err (Fault f)) = (fault : PairFault) × (fault_of (pair_of_text r) ≡ Some fault) × (f ≡ fault_name fault)
MakesPair r (Err Memory) = Unit {0}

-- numbers as bytes, up to the greatest one
abbrev pub in_byte : ℕ → ℕ
in_byte n = min n 255

abbrev pub in_bytes : SideTree → SideTree
in_bytes (sides.input r) = sides.input (in_byte r)
in_bytes (sides.proj a s) = sides.proj (in_byte a) (in_bytes s)
in_bytes (sides.filtered p a s) = sides.filtered (in_byte p) (in_byte a) (in_bytes s)
in_bytes (sides.inner_join a b s t) = sides.inner_join (in_byte a) (in_byte b) (in_bytes s) (in_bytes t)
in_bytes (sides.left_join a b s t) = sides.left_join (in_byte a) (in_byte b) (in_bytes s) (in_bytes t)
in_bytes (sides.in_sub a s t) = sides.in_sub (in_byte a) (in_bytes s) (in_bytes t)
in_bytes (sides.dedup s) = sides.dedup (in_bytes s)
