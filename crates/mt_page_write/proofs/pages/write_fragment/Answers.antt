use Rattle.std.proofs.Common.{◌≡◌, ◌++◌, ◌<◌, ◌≤◌, length, subst, sym}
use Rattle.std.specs.Prelude.{Err, OnOk}
use Rattle.mt_tree.specs.Limits.{body_limit}
use Rattle.mt_page_write.specs.declared.refusal.PageRefusal.TheVariants.{TooLong}
use Rattle.mt_page_write.proofs.Carried.{text_of_codes}
use Rattle.mt_page_write.proofs.pages.write_fragment.Goals as goal

pub returns-clause-text : goal.returns-clause-text
returns-clause-text c =
    subst (λ s. OnOk c.write_behind.result (c.write_behind.new.into.items ≡ c.args.into.now.items ++ s)) (sym (text_of_codes c.args.tildes.now c.args.fragment.now)) c.write_behind.ensures.text

pub returns-clause-short : goal.returns-clause-short
returns-clause-short c = subst (λ s. OnOk c.write_behind.result (length s ≤ body_limit)) (sym (text_of_codes c.args.tildes.now c.args.fragment.now)) c.write_behind.ensures.short

pub returns-clause-long : goal.returns-clause-long
returns-clause-long c = subst (λ s. c.write_behind.result ≡ Err TooLong → body_limit < length s) (sym (text_of_codes c.args.tildes.now c.args.fragment.now)) c.write_behind.ensures.long
