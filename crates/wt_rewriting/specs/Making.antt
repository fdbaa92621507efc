-- Of contracts of private functions alone: the lines of statements that stand one behind another.
use Rattle.std.specs.Prelude.{◌≡◌, ℕ, Bool, List, ◌++◌, take, Result, IfOk}
use Rattle.wt_grammar.specs.Statements.{File, Statement}
use Rattle.wt_lines.specs.declared.line.Line.{Line}
use Rattle.wt_lines.specs.Lines.{AreLines, any_refused, lines_text}
use Rattle.wt_rewriting.specs.declared.making.Made.{Made}
use Rattle.wt_rule.specs.declared.Rule.{Rule}
use Rattle.wt_schema.specs.declared.schema.Table.{Table}

-- the lines of the statements from a place to before another, and whether one of them is a refusal: the statements that, behind the
-- first `from` of the file, make its first `to`
pub record Between (tables : List Table) (rules : List Rule) (file : File) (from to : ℕ) (text : List ℕ) (refused : Bool) : Type 0 where
  pub statements : List Statement
  pub lines : List Line
  pub place : take from file.statements ++ statements ≡ take to file.statements
  pub are : AreLines tables rules file.bytes statements lines
  pub text_is : text ≡ lines_text lines
  pub refused_is : refused ≡ any_refused lines

abbrev pub AreBetween : List Table → List Rule → File → ℕ → ℕ → Made → Type 0
AreBetween tables rules file from to made = Between tables rules file from to made.text.items made.refused

-- where those of some statements and those of the statements behind them were made, these are those of all
abbrev pub Joins : {E : Type 0} → Result Made E → Result Made E → Result Made E → Type 0
Joins first second all = (tables : List Table) (rules : List Rule) (file : File) (from half to : ℕ) → IfOk first (AreBetween tables rules file from half)
    → IfOk second (AreBetween tables rules file half to) → IfOk all (AreBetween tables rules file from to)
