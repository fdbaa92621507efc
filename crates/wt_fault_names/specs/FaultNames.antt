-- The names of faults in printed lines: those of the variants.
use Rattle.std.specs.Prelude.{ℕ, List, codes}
use Rattle.wt_lex.specs.declared.token.LexFault.{LexFault}
use Rattle.wt_lex.specs.declared.token.LexFault.TheVariants as lexical
use Rattle.wt_ddl.specs.declared.fault.DdlFault.{DdlFault}
use Rattle.wt_ddl.specs.declared.fault.DdlFault.TheVariants as schema
use Rattle.wt_grammar.specs.declared.fault.QueryFault.{QueryFault}
use Rattle.wt_grammar.specs.declared.fault.QueryFault.TheVariants as query
use Rattle.wt_query_plan.specs.declared.fault.BuildFault.{BuildFault}
use Rattle.wt_query_plan.specs.declared.fault.BuildFault.TheVariants as build

abbrev pub lexical_name : LexFault → List ℕ
lexical_name lexical.NotText = codes "NotText"
lexical_name lexical.BadCharacter = codes "BadCharacter"
lexical_name lexical.OpenQuote = codes "OpenQuote"
lexical_name lexical.NumberRange = codes "NumberRange"
lexical_name lexical.TooLong = codes "TooLong"

abbrev pub schema_name : DdlFault → List ℕ
schema_name schema.Syntax = codes "Syntax"
schema_name schema.UnsupportedStatement = codes "UnsupportedStatement"
schema_name schema.UnsupportedType = codes "UnsupportedType"
schema_name schema.UnsupportedClause = codes "UnsupportedClause"
schema_name schema.DuplicateTable = codes "DuplicateTable"
schema_name schema.DuplicateColumn = codes "DuplicateColumn"
schema_name schema.UnknownTable = codes "UnknownTable"
schema_name schema.UnknownColumn = codes "UnknownColumn"
schema_name schema.SecondPrimaryKey = codes "SecondPrimaryKey"
schema_name schema.ReferenceNotKey = codes "ReferenceNotKey"
schema_name schema.ReferenceTypes = codes "ReferenceTypes"
schema_name schema.ReferenceWidth = codes "ReferenceWidth"
schema_name schema.TooManyColumns = codes "TooManyColumns"
schema_name schema.TooManyTables = codes "TooManyTables"

abbrev pub query_name : QueryFault → List ℕ
query_name query.Syntax = codes "Syntax"
query_name query.NotSelect = codes "NotSelect"
query_name query.With = codes "With"
query_name query.GroupBy = codes "GroupBy"
query_name query.Having = codes "Having"
query_name query.SetOperation = codes "SetOperation"
query_name query.OrderBy = codes "OrderBy"
query_name query.Limit = codes "Limit"
query_name query.Window = codes "Window"
query_name query.Exists = codes "Exists"
query_name query.NotInSubquery = codes "NotInSubquery"
query_name query.InUnderOr = codes "InUnderOr"
query_name query.Subquery = codes "Subquery"
query_name query.Arithmetic = codes "Arithmetic"
query_name query.Function = codes "Function"
query_name query.Like = codes "Like"
query_name query.Case = codes "Case"
query_name query.Cast = codes "Cast"
query_name query.Parameter = codes "Parameter"
query_name query.Literal = codes "Literal"
query_name query.FullJoin = codes "FullJoin"
query_name query.CrossJoin = codes "CrossJoin"
query_name query.NaturalJoin = codes "NaturalJoin"
query_name query.Using = codes "Using"
query_name query.CommaJoin = codes "CommaJoin"
query_name query.TooDeep = codes "TooDeep"
query_name query.TooMany = codes "TooMany"
query_name query.TooLong = codes "TooLong"

abbrev pub build_name : BuildFault → List ℕ
build_name build.UnknownTable = codes "UnknownTable"
build_name build.DuplicateAlias = codes "DuplicateAlias"
build_name build.ColumnListWidth = codes "ColumnListWidth"
build_name build.UnknownColumn = codes "UnknownColumn"
build_name build.CorrelatedColumn = codes "CorrelatedColumn"
build_name build.AmbiguousColumn = codes "AmbiguousColumn"
build_name build.TypeMismatch = codes "TypeMismatch"
build_name build.ConditionWithoutColumn = codes "ConditionWithoutColumn"
build_name build.InWidth = codes "InWidth"
build_name build.OnLeftCondition = codes "OnLeftCondition"
build_name build.OnMixedCondition = codes "OnMixedCondition"
build_name build.NoJoinEquality = codes "NoJoinEquality"
build_name build.TooWide = codes "TooWide"
