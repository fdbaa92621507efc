-- The form of a rule's line, as bytes without the LF behind it.
use Rattle.std.specs.Prelude.{◌≡◌, ℕ, Bool, true, false, List, [], ◌∷◌, ◌++◌, codes, Some, None}
use Rattle.std.specs.declared.option.Option.{Option}
use Rattle.wt_rule_text.specs.declared.parsed.Version.{Version}
use Rattle.wt_rule_text.specs.declared.parsed.Version.TheVariants as versions
use Rattle.wt_rule_text.specs.declared.parsed.Listed.{Listed}
use Rattle.wt_rule_text.specs.declared.parsed.Unary.{Unary}
use Rattle.wt_rule_text.specs.declared.parsed.Unary.TheVariants.{Proj, Filter, Dedup}
use Rattle.wt_rule_text.specs.declared.parsed.Binary.{Binary}
use Rattle.wt_rule_text.specs.declared.parsed.Binary.TheVariants.{InnerJoin, LeftJoin, InSub}
use Rattle.wt_rule_text.specs.declared.parsed.ParsedAtom.{ParsedAtom}
use Rattle.wt_rule_text.specs.declared.parsed.ParsedAtom.TheVariants.{RelEq, AttrsEq, PredEq, Unique, NotNull, RefAttrs}
use Rattle.wt_rule_text.specs.declared.parsed.Weights.{Weights}
use Rattle.wt_rule_text.specs.Numbers.{is_number, value}
use Rattle.wt_rule_text.specs.Trees.{SideText, input, one, two, RuleText}

-- digits that write the number
pub record IsNumber (n : ℕ) (text : List ℕ) : Type 0 where
  pub digits : is_number text ≡ true
  pub is : n ≡ value text

-- a symbol: its letter with a number
pub record IsSymbol (letter : List ℕ) (n : ℕ) (text : List ℕ) : Type 0 where
  pub digits : List ℕ
  pub number : IsNumber n digits
  pub is : text ≡ letter ++ digits

-- a list with its anchor, as a0@r0, or without, as a0
abbrev pub IsAnchor : Bool → Option ℕ → List ℕ → Type 0
IsAnchor false None text = text ≡ []
IsAnchor false (Some r) text = ⊥
IsAnchor true None text = ⊥
IsAnchor true (Some r) text = (leaf : List ℕ) × IsSymbol (codes "r") r leaf × (text ≡ codes "@" ++ leaf)

pub record IsList (marked : Bool) (list : Listed) (text : List ℕ) : Type 0 where
  pub symbol : List ℕ
  pub anchor : List ℕ
  pub is_symbol : IsSymbol (codes "a") list.list symbol
  pub is_anchor : IsAnchor marked list.anchor anchor
  pub is : text ≡ symbol ++ anchor

-- an operator up to its first operand
abbrev pub IsUnary : Bool → Unary → List ℕ → Type 0
IsUnary marked (Proj list) text = (a : List ℕ) × IsList marked list a × (text ≡ codes "Proj<" ++ (a ++ codes ">("))
IsUnary marked (Filter pred list) text =
    (p : List ℕ) × (a : List ℕ) × IsSymbol (codes "p") pred p × IsList marked list a × (text ≡ codes "Filter<" ++ (p ++ (codes "," ++ (a ++ codes ">("))))
IsUnary marked Dedup text = text ≡ codes "Dedup("

abbrev pub IsTwoLists : Bool → Listed → Listed → List ℕ → Type 0
IsTwoLists marked left right text = (a : List ℕ) × (b : List ℕ) × IsList marked left a × IsList marked right b × (text ≡ a ++ (codes "," ++ (b ++ codes ">(")))

abbrev pub IsBinary : Bool → Binary → List ℕ → Type 0
IsBinary marked (InnerJoin left right) text = (l : List ℕ) × IsTwoLists marked left right l × (text ≡ codes "InnerJoin<" ++ l)
IsBinary marked (LeftJoin left right) text = (l : List ℕ) × IsTwoLists marked left right l × (text ≡ codes "LeftJoin<" ++ l)
IsBinary marked (InSub list) text = (a : List ℕ) × IsList marked list a × (text ≡ codes "InSub<" ++ (a ++ codes ">("))

-- a side; in a source each list is marked with its anchor
abbrev pub IsSide : Bool → SideText → List ℕ → Type 0
IsSide marked (input r) text = IsSymbol (codes "r") r text
IsSide marked (one u s) text = (o : List ℕ) × (a : List ℕ) × IsUnary marked u o × IsSide marked s a × (text ≡ o ++ (a ++ codes ")"))
IsSide marked (two b s t) text =
    (o : List ℕ) × (a : List ℕ) × (c : List ℕ) × IsBinary marked b o × IsSide marked s a × IsSide marked t c × (text ≡ o ++ (a ++ (codes "," ++ (c ++ codes ")"))))

-- an atom: a word with its symbols
abbrev pub IsTwoSymbols : List ℕ → List ℕ → List ℕ → ℕ → ℕ → List ℕ → Type 0
IsTwoSymbols word first second x y text =
    (a : List ℕ) × (b : List ℕ) × IsSymbol first x a × IsSymbol second y b × (text ≡ word ++ (a ++ (codes "," ++ (b ++ codes ")"))))

abbrev pub IsLeafAndList : ℕ → ℕ → List ℕ → Type 0
IsLeafAndList r a text = (l : List ℕ) × (k : List ℕ) × IsSymbol (codes "r") r l × IsSymbol (codes "a") a k × (text ≡ l ++ (codes "," ++ k))

abbrev pub IsAtom : ParsedAtom → List ℕ → Type 0
IsAtom (RelEq x y) text = IsTwoSymbols (codes "RelEq(") (codes "r") (codes "r") x y text
IsAtom (AttrsEq x y) text = IsTwoSymbols (codes "AttrsEq(") (codes "a") (codes "a") x y text
IsAtom (PredEq x y) text = IsTwoSymbols (codes "PredEq(") (codes "p") (codes "p") x y text
IsAtom (Unique r a) text = IsTwoSymbols (codes "Unique(") (codes "r") (codes "a") r a text
IsAtom (NotNull r a) text = IsTwoSymbols (codes "NotNull(") (codes "r") (codes "a") r a text
IsAtom (RefAttrs r a s b) text =
    (x : List ℕ) × (y : List ℕ) × IsLeafAndList r a x × IsLeafAndList s b y × (text ≡ codes "RefAttrs(" ++ (x ++ (codes "," ++ (y ++ codes ")"))))

-- atoms, each behind a space
abbrev pub AreMore : List ParsedAtom → List ℕ → Type 0
AreMore [] text = text ≡ []
AreMore (a ∷ more) text = (x : List ℕ) × (y : List ℕ) × IsAtom a x × AreMore more y × (text ≡ codes " " ++ (x ++ y))

-- the atoms of a line: a dash for none, or one after another with a space between
abbrev pub AreAtoms : List ParsedAtom → List ℕ → Type 0
AreAtoms [] text = text ≡ codes "-"
AreAtoms (a ∷ more) text = (x : List ℕ) × (y : List ℕ) × IsAtom a x × AreMore more y × (text ≡ x ++ y)

-- what stands behind the atoms: nothing, or from version 2 on the weights of both sides
abbrev pub IsStated : Version → Option Weights → List ℕ → Type 0
IsStated versions.One None text = text ≡ []
IsStated versions.One (Some w) text = ⊥
IsStated versions.Two None text = ⊥
IsStated versions.Two (Some w) text =
    (x : List ℕ) × (y : List ℕ) × IsNumber w.source x × IsNumber w.dest y × (text ≡ codes " | " ++ (x ++ (codes " " ++ y)))

-- the line of a rule
pub record IsLine (version : Version) (rule : RuleText) (line : List ℕ) : Type 0 where
  pub source : List ℕ
  pub dest : List ℕ
  pub atoms : List ℕ
  pub weights : List ℕ
  pub is_source : IsSide true rule.source source
  pub is_dest : IsSide false rule.dest dest
  pub are_atoms : AreAtoms rule.atoms atoms
  pub is_stated : IsStated version rule.weights weights
  pub is : line ≡ source ++ (codes " => " ++ (dest ++ (codes " | " ++ (atoms ++ weights))))
