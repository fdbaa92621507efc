-- Which kind a test holds of, and what may stand behind an operand, an item or an alias.
use Rattle.std.proofs.Common.{◌≡◌, true, false, refl, ap, sym, Some, None, subst}
use Rattle.wt_lex.specs.declared.token.Sym.TheVariants as sym
use Rattle.wt_ast.specs.declared.tree.CmpWord.{CmpWord}
use Rattle.wt_reading.specs.declared.lexeme.Kind.{Kind}
use Rattle.wt_reading.specs.declared.lexeme.Kind.TheVariants.{End, Key, Name, Mark}
use Rattle.wt_lex.specs.declared.words.Word.TheVariants as word
use Rattle.wt_reading.proofs.OneKind.{kind_is}
use Rattle.wt_reading.specs.Lexemes.{is_open, is_close, is_comma, is_name}
use Rattle.wt_grammar.specs.Kinds.{is_and, is_or, is_not, is_select, is_distinct, is_all, is_from, is_where, is_between, is_is, is_null_word, is_in, is_as, is_inner, is_left, is_right, is_outer, is_join, is_on, is_dot, is_star, begins_join}
use Rattle.wt_grammar.specs.Refusals.{beyond}
use Rattle.wt_sentence.proofs.Stages.{next_stage, behind_name, behind_column}
use Rattle.wt_grammar.specs.Reading.{cmp_of}

pub and_is : (k : Kind) → is_and k ≡ true → k ≡ Key word.And
and_is k h = kind_is (Key word.And) k h

pub or_is : (k : Kind) → is_or k ≡ true → k ≡ Key word.Or
or_is k h = kind_is (Key word.Or) k h

pub not_is : (k : Kind) → is_not k ≡ true → k ≡ Key word.Not
not_is k h = kind_is (Key word.Not) k h

pub select_is : (k : Kind) → is_select k ≡ true → k ≡ Key word.Select
select_is k h = kind_is (Key word.Select) k h

pub distinct_is : (k : Kind) → is_distinct k ≡ true → k ≡ Key word.Distinct
distinct_is k h = kind_is (Key word.Distinct) k h

pub all_is : (k : Kind) → is_all k ≡ true → k ≡ Key word.All
all_is k h = kind_is (Key word.All) k h

pub from_is : (k : Kind) → is_from k ≡ true → k ≡ Key word.From
from_is k h = kind_is (Key word.From) k h

pub where_is : (k : Kind) → is_where k ≡ true → k ≡ Key word.Where
where_is k h = kind_is (Key word.Where) k h

pub between_is : (k : Kind) → is_between k ≡ true → k ≡ Key word.Between
between_is k h = kind_is (Key word.Between) k h

pub in_is_word : (k : Kind) → is_is k ≡ true → k ≡ Key word.Is
in_is_word k h = kind_is (Key word.Is) k h

pub null_word_is : (k : Kind) → is_null_word k ≡ true → k ≡ Key word.Null
null_word_is k h = kind_is (Key word.Null) k h

pub in_is : (k : Kind) → is_in k ≡ true → k ≡ Key word.In
in_is k h = kind_is (Key word.In) k h

pub as_is : (k : Kind) → is_as k ≡ true → k ≡ Key word.As
as_is k h = kind_is (Key word.As) k h

pub inner_is : (k : Kind) → is_inner k ≡ true → k ≡ Key word.Inner
inner_is k h = kind_is (Key word.Inner) k h

pub left_is : (k : Kind) → is_left k ≡ true → k ≡ Key word.Left
left_is k h = kind_is (Key word.Left) k h

pub right_is : (k : Kind) → is_right k ≡ true → k ≡ Key word.Right
right_is k h = kind_is (Key word.Right) k h

pub outer_is : (k : Kind) → is_outer k ≡ true → k ≡ Key word.Outer
outer_is k h = kind_is (Key word.Outer) k h

pub join_is : (k : Kind) → is_join k ≡ true → k ≡ Key word.Join
join_is k h = kind_is (Key word.Join) k h

pub on_is : (k : Kind) → is_on k ≡ true → k ≡ Key word.On
on_is k h = kind_is (Key word.On) k h

pub open_is : (k : Kind) → is_open k ≡ true → k ≡ Mark sym.Open
open_is k h = kind_is (Mark sym.Open) k h

pub close_is : (k : Kind) → is_close k ≡ true → k ≡ Mark sym.Close
close_is k h = kind_is (Mark sym.Close) k h

pub comma_is : (k : Kind) → is_comma k ≡ true → k ≡ Mark sym.Comma
comma_is k h = kind_is (Mark sym.Comma) k h

pub dot_is : (k : Kind) → is_dot k ≡ true → k ≡ Mark sym.Dot
dot_is k h = kind_is (Mark sym.Dot) k h

pub star_is : (k : Kind) → is_star k ≡ true → k ≡ Mark sym.Star
star_is k h = kind_is (Mark sym.Star) k h

pub name_is : (k : Kind) → is_name k ≡ true → k ≡ Name
name_is k h = kind_is Name k h

-- a join that begins with no JOIN and no INNER begins with LEFT or RIGHT
pub right_begins : (k : Kind) → begins_join k ≡ true → is_join k ≡ false → is_inner k ≡ false → is_left k ≡ false → is_right k ≡ true
right_begins (Key word.Right) h p q r = refl
right_begins (Key word.Left) h p q r = absurd cc
right_begins (Key word.Join) h p q r = absurd cc
right_begins (Key word.Inner) h p q r = absurd cc
right_begins _ h p q r = absurd cc

-- What may stand behind an operand, an item, a table or an alias.
pub record Plain (k : Kind) : Type 0 where
  pub not_dot : is_dot k ≡ false
  pub not_open : is_open k ≡ false
  pub not_as : is_as k ≡ false
  pub not_name : is_name k ≡ false
  pub not_beyond : beyond k ≡ None

-- what may stand behind a condition
pub record EndsCond (k : Kind) : Type 0 where
  pub plain : Plain k
  pub not_and : is_and k ≡ false
  pub not_or : is_or k ≡ false

-- what may stand behind a chain of joins
pub record EndsFrom (k : Kind) : Type 0 where
  pub cond : EndsCond k
  pub not_join : begins_join k ≡ false

-- what may stand behind FROM and its list
pub record EndsList (k : Kind) : Type 0 where
  pub from : EndsFrom k
  pub not_comma : is_comma k ≡ false

-- what may stand behind a query
pub record EndsQuery (k : Kind) : Type 0 where
  pub list : EndsList k
  pub not_where : is_where k ≡ false

pub and_plain : (k : Kind) → is_and k ≡ true → Plain k
and_plain k h = subst Plain (sym (and_is k h)) record { not_dot = refl; not_open = refl; not_as = refl; not_name = refl; not_beyond = refl }

pub or_plain : (k : Kind) → is_or k ≡ true → Plain k
or_plain k h = subst Plain (sym (or_is k h)) record { not_dot = refl; not_open = refl; not_as = refl; not_name = refl; not_beyond = refl }

pub not_plain : (k : Kind) → is_not k ≡ true → Plain k
not_plain k h = subst Plain (sym (not_is k h)) record { not_dot = refl; not_open = refl; not_as = refl; not_name = refl; not_beyond = refl }

pub from_plain : (k : Kind) → is_from k ≡ true → Plain k
from_plain k h = subst Plain (sym (from_is k h)) record { not_dot = refl; not_open = refl; not_as = refl; not_name = refl; not_beyond = refl }

pub where_plain : (k : Kind) → is_where k ≡ true → Plain k
where_plain k h = subst Plain (sym (where_is k h)) record { not_dot = refl; not_open = refl; not_as = refl; not_name = refl; not_beyond = refl }

pub between_plain : (k : Kind) → is_between k ≡ true → Plain k
between_plain k h = subst Plain (sym (between_is k h)) record { not_dot = refl; not_open = refl; not_as = refl; not_name = refl; not_beyond = refl }

pub is_plain : (k : Kind) → is_is k ≡ true → Plain k
is_plain k h = subst Plain (sym (in_is_word k h)) record { not_dot = refl; not_open = refl; not_as = refl; not_name = refl; not_beyond = refl }

pub in_plain : (k : Kind) → is_in k ≡ true → Plain k
in_plain k h = subst Plain (sym (in_is k h)) record { not_dot = refl; not_open = refl; not_as = refl; not_name = refl; not_beyond = refl }

pub inner_plain : (k : Kind) → is_inner k ≡ true → Plain k
inner_plain k h = subst Plain (sym (inner_is k h)) record { not_dot = refl; not_open = refl; not_as = refl; not_name = refl; not_beyond = refl }

pub left_plain : (k : Kind) → is_left k ≡ true → Plain k
left_plain k h = subst Plain (sym (left_is k h)) record { not_dot = refl; not_open = refl; not_as = refl; not_name = refl; not_beyond = refl }

pub join_plain : (k : Kind) → is_join k ≡ true → Plain k
join_plain k h = subst Plain (sym (join_is k h)) record { not_dot = refl; not_open = refl; not_as = refl; not_name = refl; not_beyond = refl }

pub on_plain : (k : Kind) → is_on k ≡ true → Plain k
on_plain k h = subst Plain (sym (on_is k h)) record { not_dot = refl; not_open = refl; not_as = refl; not_name = refl; not_beyond = refl }

pub close_plain : (k : Kind) → is_close k ≡ true → Plain k
close_plain k h = subst Plain (sym (close_is k h)) record { not_dot = refl; not_open = refl; not_as = refl; not_name = refl; not_beyond = refl }

pub comma_plain : (k : Kind) → is_comma k ≡ true → Plain k
comma_plain k h = subst Plain (sym (comma_is k h)) record { not_dot = refl; not_open = refl; not_as = refl; not_name = refl; not_beyond = refl }

pub end_query : EndsQuery End
end_query = record { list = record { from = record { cond = record { plain = record { not_dot = refl; not_open = refl; not_as = refl; not_name = refl; not_beyond = refl }; not_and = refl; not_or = refl }; not_join = refl }; not_comma = refl }; not_where = refl }

pub close_query : (k : Kind) → is_close k ≡ true → EndsQuery k
close_query k h = subst EndsQuery (sym (close_is k h)) (record { list = record { from = record { cond = record { plain = record { not_dot = refl; not_open = refl; not_as = refl; not_name = refl; not_beyond = refl }; not_and = refl; not_or = refl }; not_join = refl }; not_comma = refl }; not_where = refl })

pub where_list : (k : Kind) → is_where k ≡ true → EndsList k
where_list k h = subst EndsList (sym (where_is k h)) (record { from = record { cond = record { plain = record { not_dot = refl; not_open = refl; not_as = refl; not_name = refl; not_beyond = refl }; not_and = refl; not_or = refl }; not_join = refl }; not_comma = refl })

pub comma_from : (k : Kind) → is_comma k ≡ true → EndsFrom k
comma_from k h = subst EndsFrom (sym (comma_is k h)) (record { cond = record { plain = record { not_dot = refl; not_open = refl; not_as = refl; not_name = refl; not_beyond = refl }; not_and = refl; not_or = refl }; not_join = refl })

pub or_not_and : (k : Kind) → is_or k ≡ true → is_and k ≡ false
or_not_and k h = ap is_and (or_is k h)

pub joins_cond : (k : Kind) → begins_join k ≡ true → EndsCond k
joins_cond (Key word.Join) h = record { plain = record { not_dot = refl; not_open = refl; not_as = refl; not_name = refl; not_beyond = refl }; not_and = refl; not_or = refl }
joins_cond (Key word.Inner) h = record { plain = record { not_dot = refl; not_open = refl; not_as = refl; not_name = refl; not_beyond = refl }; not_and = refl; not_or = refl }
joins_cond (Key word.Left) h = record { plain = record { not_dot = refl; not_open = refl; not_as = refl; not_name = refl; not_beyond = refl }; not_and = refl; not_or = refl }
joins_cond (Key word.Right) h = record { plain = record { not_dot = refl; not_open = refl; not_as = refl; not_name = refl; not_beyond = refl }; not_and = refl; not_or = refl }
joins_cond _ h = absurd cc

-- a comparison is no other word behind an operand
pub cmp_tests : (k : Kind) (w : CmpWord) → cmp_of k ≡ Some w → (is_between k ≡ false) × (is_not k ≡ false) × (is_is k ≡ false) × (is_in k ≡ false) × Plain k
cmp_tests (Mark sym.Eq) w h = (refl, refl, refl, refl, record { not_dot = refl; not_open = refl; not_as = refl; not_name = refl; not_beyond = refl })
cmp_tests (Mark sym.NotEq) w h = (refl, refl, refl, refl, record { not_dot = refl; not_open = refl; not_as = refl; not_name = refl; not_beyond = refl })
cmp_tests (Mark sym.BangEq) w h = (refl, refl, refl, refl, record { not_dot = refl; not_open = refl; not_as = refl; not_name = refl; not_beyond = refl })
cmp_tests (Mark sym.Lt) w h = (refl, refl, refl, refl, record { not_dot = refl; not_open = refl; not_as = refl; not_name = refl; not_beyond = refl })
cmp_tests (Mark sym.Le) w h = (refl, refl, refl, refl, record { not_dot = refl; not_open = refl; not_as = refl; not_name = refl; not_beyond = refl })
cmp_tests (Mark sym.Gt) w h = (refl, refl, refl, refl, record { not_dot = refl; not_open = refl; not_as = refl; not_name = refl; not_beyond = refl })
cmp_tests (Mark sym.Ge) w h = (refl, refl, refl, refl, record { not_dot = refl; not_open = refl; not_as = refl; not_name = refl; not_beyond = refl })
cmp_tests _ w h = absurd cc

-- what stands directly behind an operand: no column goes on with it, and no parenthesis closes
pub record Front (k : Kind) : Type 0 where
  pub plain : Plain k
  pub no_name : next_stage behind_name k ≡ None
  pub no_column : next_stage behind_column k ≡ None
  pub not_close : is_close k ≡ false

pub between_front : (k : Kind) → is_between k ≡ true → Front k
between_front k h = subst Front (sym (between_is k h)) (record { plain = record { not_dot = refl; not_open = refl; not_as = refl; not_name = refl; not_beyond = refl }; no_name = refl; no_column = refl; not_close = refl })

pub not_front : (k : Kind) → is_not k ≡ true → Front k
not_front k h = subst Front (sym (not_is k h)) (record { plain = record { not_dot = refl; not_open = refl; not_as = refl; not_name = refl; not_beyond = refl }; no_name = refl; no_column = refl; not_close = refl })

pub is_front : (k : Kind) → is_is k ≡ true → Front k
is_front k h = subst Front (sym (in_is_word k h)) (record { plain = record { not_dot = refl; not_open = refl; not_as = refl; not_name = refl; not_beyond = refl }; no_name = refl; no_column = refl; not_close = refl })

pub in_front : (k : Kind) → is_in k ≡ true → Front k
in_front k h = subst Front (sym (in_is k h)) (record { plain = record { not_dot = refl; not_open = refl; not_as = refl; not_name = refl; not_beyond = refl }; no_name = refl; no_column = refl; not_close = refl })

pub cmp_front : (k : Kind) (w : CmpWord) → cmp_of k ≡ Some w → Front k
cmp_front (Mark sym.Eq) w h = record { plain = record { not_dot = refl; not_open = refl; not_as = refl; not_name = refl; not_beyond = refl }; no_name = refl; no_column = refl; not_close = refl }
cmp_front (Mark sym.NotEq) w h = record { plain = record { not_dot = refl; not_open = refl; not_as = refl; not_name = refl; not_beyond = refl }; no_name = refl; no_column = refl; not_close = refl }
cmp_front (Mark sym.BangEq) w h = record { plain = record { not_dot = refl; not_open = refl; not_as = refl; not_name = refl; not_beyond = refl }; no_name = refl; no_column = refl; not_close = refl }
cmp_front (Mark sym.Lt) w h = record { plain = record { not_dot = refl; not_open = refl; not_as = refl; not_name = refl; not_beyond = refl }; no_name = refl; no_column = refl; not_close = refl }
cmp_front (Mark sym.Le) w h = record { plain = record { not_dot = refl; not_open = refl; not_as = refl; not_name = refl; not_beyond = refl }; no_name = refl; no_column = refl; not_close = refl }
cmp_front (Mark sym.Gt) w h = record { plain = record { not_dot = refl; not_open = refl; not_as = refl; not_name = refl; not_beyond = refl }; no_name = refl; no_column = refl; not_close = refl }
cmp_front (Mark sym.Ge) w h = record { plain = record { not_dot = refl; not_open = refl; not_as = refl; not_name = refl; not_beyond = refl }; no_name = refl; no_column = refl; not_close = refl }
cmp_front _ w h = absurd cc
