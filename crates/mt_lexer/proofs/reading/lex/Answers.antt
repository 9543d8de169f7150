use Rattle.std.proofs.Common.{Err, sym, ap, ◌∙◌, subst}
use Rattle.mt_tree.specs.declared.place.Place.{Place}
use Rattle.mt_tree.specs.Place.{place_of}
use Rattle.mt_lexer.specs.declared.reading.Ending.TheVariants as ending
use Rattle.mt_lexer.specs.declared.refusal.LexRefusal.{LexRefusal}
use Rattle.mt_lexer.specs.declared.refusal.LexRefusal.TheVariants as refusal
use Rattle.mt_lexer.specs.Verdict.{IsReading, refusal_of}
use Rattle.mt_lexer.proofs.Readings.{ends_whole, reads_tokens, reads_refusal, reads_many, reads_no_text, reads_order}
use Rattle.mt_lexer.proofs.reading.lex.Goals as goal

pub returns-in-Err-clause-reading : goal.returns-in-Err-clause-reading
returns-in-Err-clause-reading c =
    subst (λ (place : Place). IsReading c.args.source.now (Err (refusal.NotUtf8 place))) (sym (c.place-place.ensures ∙ ap (place_of c.args.source.now) c.valid_up_to.ensures))
    (reads_no_text c.args.source.now _ c.in-Err.ensures.cases.1)

pub returns-in-Finished-clause-reading : goal.returns-in-Finished-clause-reading
returns-in-Finished-clause-reading c =
    reads_tokens c.args.source.now c.read.new.self.tokens (c.in_ok-read.ensures.source ∙ c.in-Ok.ensures.cases.0) c.in-Ok.ensures.cases.1
    (ends_whole c.args.source.now c.in-Ok.text.now c.in_ok-lexer.lexer ending.Finished c.read.new.self.tokens.marks c.in-Ok.ensures.cases.0 c.in_ok-lexer.ensures (rw c.in-Finished.is at c.in_ok-read.ensures.ends))

pub returns-in-Finished-clause-order : goal.returns-in-Finished-clause-order
returns-in-Finished-clause-order c =
    reads_order c.args.source.now c.read.new.self.tokens.marks c.in-Ok.ensures.cases.1
    (ends_whole c.args.source.now c.in-Ok.text.now c.in_ok-lexer.lexer ending.Finished c.read.new.self.tokens.marks c.in-Ok.ensures.cases.0 c.in_ok-lexer.ensures (rw c.in-Finished.is at c.in_ok-read.ensures.ends))

pub returns-in-Refused-clause-reading : goal.returns-in-Refused-clause-reading
returns-in-Refused-clause-reading c =
    subst (λ (r : LexRefusal). IsReading c.args.source.now (Err r)) (sym (c.at.ensures ∙ ap (refusal_of c.in-Refused.fault) c.place.ensures))
    (
    reads_refusal c.args.source.now c.in-Refused.fault c.in-Refused.at c.read.new.self.tokens.marks c.in-Ok.ensures.cases.1
    (ends_whole c.args.source.now c.in-Ok.text.now c.in_ok-lexer.lexer (ending.Refused c.in-Refused.fault c.in-Refused.at) c.read.new.self.tokens.marks c.in-Ok.ensures.cases.0 c.in_ok-lexer.ensures (rw c.in-Refused.is at c.in_ok-read.ensures.ends))
    )

pub returns-clause-reading : goal.returns-clause-reading
returns-clause-reading c =
    subst (λ (place : Place). IsReading c.args.source.now (Err (refusal.TooManyTokens place)))
    (sym (c.place-in-TooManyTokens.ensures ∙ ap (place_of c.args.source.now) c.start_of-at.ensures))
    (
    reads_many c.args.source.now c.read.new.self.tokens.marks c.in-Ok.ensures.cases.1
    (ends_whole c.args.source.now c.in-Ok.text.now c.in_ok-lexer.lexer ending.TooManyTokens c.read.new.self.tokens.marks c.in-Ok.ensures.cases.0 c.in_ok-lexer.ensures (rw c.in-TooManyTokens.is at c.in_ok-read.ensures.ends))
    )
