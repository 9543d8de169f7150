use Rattle.std.proofs.Common.{refl, sym, ◌∙◌, string_bytes, codes}
use Rattle.std.proofs.lemmas.Slice.Eq.{bytes_eq-Decides}
use Rattle.mt_top.proofs.ShortLists.{map_of_two, map_of_three}
use Rattle.mt_top.proofs.words.read_words.Goals as goal

pub returns-then-is_file_name-clause-found : goal.returns-then-is_file_name-clause-found
returns-then-is_file_name-clause-found c =
    let words = map_of_two string_bytes c.args.words.now c.command-item.result c.application-item.result
    c.in-len2.len_at_least c.in-len2.len_below c.command-item.is c.application-item.is in
    let command = sym c.as_str-command.ensures.value ∙ (bytes_eq-Decides c.as_str-command.result.now (codes "check")).0 (sym c.if-eq.ensures) in
    (words ∙ rw (command, sym c.as_str-application.ensures.value) refl, sym c.if-is_file_name.ensures)

pub returns-then-is_file_name-2-clause-found : goal.returns-then-is_file_name-2-clause-found
returns-then-is_file_name-2-clause-found c =
    let words = map_of_two string_bytes c.args.words.now c.command-item.result c.application-item.result
    c.in-len2.len_at_least c.in-len2.len_below c.command-item.is c.application-item.is in
    let command = sym c.as_str-command.ensures.value ∙ (bytes_eq-Decides c.as_str-command.result.now (codes "start")).0 (sym c.if-eq-2.ensures) in
    (words ∙ rw (command, sym c.as_str-application.ensures.value) refl, sym c.if-is_file_name-2.ensures)

pub returns-then-is_file_name-4-clause-found : goal.returns-then-is_file_name-4-clause-found
returns-then-is_file_name-4-clause-found c =
    let words = map_of_three string_bytes c.args.words.now c.command-item-then-words-lt4.result c.application-item-then-words-lt4.result c.schedule-item.result
    c.in-len3.len_at_least c.in-len3.len_below c.command-item-then-words-lt4.is c.application-item-then-words-lt4.is c.schedule-item.is in
    let command = sym c.as_str.ensures.value ∙ (bytes_eq-Decides c.as_str.result.now (codes "replay")).0 (sym c.if-eq-3.ensures) in (
      words ∙ rw (command, sym c.as_str-application-in-len3.ensures.value, sym c.as_str-schedule.ensures.value) refl,
      sym c.if-is_file_name-3.ensures,
      sym c.if-is_file_name-4.ensures,
    )
