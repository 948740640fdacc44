use Rattle.std.proofs.Common.{[], ◌∷◌, ◌++◌, sym, ap, ◌∙◌}
use Rattle.report.proofs.LineStartLemmas.{none_more, one_more}
use Rattle.report.specs.LineStart.{line_start}
use Rattle.report.proofs.line_start.LineStart.push.Goals as goal

pub returns-then-not-is_full : goal.returns-then-not-is_full
returns-then-not-is_full c =
    c.push.ensures.items
    ∙ one_more c.self.inside.bytes.items c.args.byte c.is_full.result c.is_full.ensures.value c.is_full.ensures.fits c.if-not-is_full.true
    ∙ ap (λ start. line_start (start ++ c.args.byte ∷ [])) c.self.view_is

pub returns-else-not-is_full : goal.returns-else-not-is_full
returns-else-not-is_full c =
    sym c.self.view_is
    ∙ none_more c.self.inside.bytes.items (c.args.byte ∷ []) c.is_full.result c.is_full.ensures.value c.if-not-is_full.false
    ∙ ap (λ start. line_start (start ++ c.args.byte ∷ [])) c.self.view_is
