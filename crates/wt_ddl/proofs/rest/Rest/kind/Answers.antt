use Rattle.std.proofs.Common.{◌∙◌, sym, ap}
use Rattle.wt_reading.specs.Lexemes.{kind}
use Rattle.wt_ddl.proofs.Marks.{lexeme-drop}
use Rattle.wt_ddl.proofs.rest.Rest.kind.Goals as goal

pub returns-then-self-len : goal.returns-then-self-len
returns-then-self-len c =
    ap (λ t. t.kind) c.lexeme_of.ensures ∙ sym (lexeme-drop c.self.inside.bytes.now c.self.inside.tokens.now c.self.inside.at c.get.result c.get.ensures) ∙ ap kind c.self.view_is
