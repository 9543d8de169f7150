-- The program that the parser gives is derived, and no deeper than the parser allows.
use Rattle.std.proofs.Common.{◌≡◌, ℕ, Bool, true, false, List, map, length, Option, None, Some, Result, Ok, Err, refl, sym, ap, ◌∙◌, subst, arith}
use Rattle.std.specs.Prelude.{nat_le, if◌then◌else◌}
use Rattle.std.specs.List.{range_with_len}
use Rattle.std.specs.Str.{chars}
use Rattle.std.proofs.lemmas.List.Elements.{All-nil}
use Rattle.std.proofs.lemmas.List.Folds.{list_all-map}
use Rattle.std.proofs.lemmas.Str.{encodes-chars, scalars-chars}
use Rattle.mt_tree.specs.Place.{place_of}
use Rattle.mt_lexer.specs.declared.mode.Fault.{Fault}
use Rattle.mt_lexer.specs.declared.refusal.LexRefusal.{LexRefusal}
use Rattle.mt_lexer.specs.declared.refusal.LexRefusal.TheVariants as refusal
use Rattle.mt_lexer.specs.Tokens.{Mark, Spelled}
use Rattle.mt_lexer.specs.Verdict.{ended, marks_in, no_text, reads_text, Reads, refusal_in, start_of}
use Rattle.mt_syntax.specs.Derivation.{IsDerived, IsDerivedTilde}
use Rattle.mt_syntax.specs.Fold.{on_stmt}
use Rattle.mt_syntax.specs.Shape.{Part, shaping}
use Rattle.mt_grammar.specs.Grammar.{IsProgram}
use Rattle.mt_grammar.specs.Tree.{Stmts}
use Rattle.mt_parser_marks.specs.Tokens.{token_in, tokens_in}
use Rattle.mt_parser_marks.proofs.Readable.{bounded}
use Rattle.mt_parser_builder.specs.declared.tier.Tier.TheVariants as tier
use Rattle.mt_parser_builder.specs.Program.{nothing_found, program_of, stmts_of}
use Rattle.mt_parser.proofs.Derived.{program_fits}
use Rattle.mt_parser.proofs.Finding.{IsGood}
use Rattle.mt_parser.proofs.Fits.{StmtsFit}
use Rattle.mt_parser.proofs.Fronts.{source_scalars}
use Rattle.mt_parser.proofs.Lexed.{lexed}
use Rattle.mt_parser.proofs.Numbers.{tildes_are_numbered}
use Rattle.mt_parser.proofs.Shapes.{stmts_made}
use Rattle.mt_parser.proofs.Terminals.{AllFit}
use Rattle.mt_parser.proofs.Tiers.{server_code}
use Rattle.mt_tree.specs.Limits.{token_limit}

-- ---- from the spelled tree

nothing_is_good : IsGood nothing_found
nothing_is_good = record { tildes = All-nil IsDerivedTilde; ids = refl; shaped = refl; server = refl }

built_is_derived : (ss : Stmts) → StmtsFit ss → IsDerived (program_of ss)
built_is_derived ss h =
    let items = (stmts_of tier.Server ss nothing_found).0 in let made = stmts_made ss h tier.Server nothing_found in let good = made.good nothing_is_good in
    record {
      items = sym (list_all-map (λ (p : Part). p.fits) (on_stmt shaping) items) ∙ made.fit;
      server = server_code ss nothing_found;
      tildes = good.tildes;
      numbers = tildes_are_numbered ss;
      ids = good.ids ∙ ap (λ n. range_with_len n (length (program_of ss).tildes)) made.before;
    }

-- ---- from the source

abbrev answer : Spelled → Result Spelled LexRefusal
answer s = Ok s

abbrev refused_by : LexRefusal → Result Spelled LexRefusal
refused_by r = Err r

accepted : (source : List ℕ) (t : Bool) (r : Option (Fault × ℕ)) (ms : List Mark) (e : LexRefusal) (s : Spelled) → (if t then ended source ms r else refused_by e) ≡ answer s → record { source = source; marks = ms } ≡ s
accepted source true None ms e s h = cc
accepted source true (Some f) ms e s h = absurd (cc)
accepted source false r ms e s h = absurd (cc)

by_reading : (source : List ℕ) (r : Result Spelled LexRefusal) (s : Spelled) → Reads source r → r ≡ answer s → AllFit (tokens_in s)
unfolding tokens_in
by_reading source r s (reads_text {o} u d) h =
    let same = accepted source (nat_le (length (marks_in o)) token_limit) (refusal_in o) (marks_in o) (refusal.TooManyTokens (place_of source (start_of token_limit (marks_in o)))) s h in
    let cut = bounded source 0 (chars source) (omega arith) u (sym (encodes-chars source u)) in let scalars = source_scalars 0 (chars source) (scalars-chars source u) in
    subst (λ (s : Spelled). AllFit (map (token_in s.source) s.marks)) same (lexed source d (cut, scalars))
by_reading source r s (no_text v) h = absurd (cc)

pub parsed_is_derived : (s : Spelled) (ss : Stmts) → Reads s.source (Ok s) → IsProgram (tokens_in s) ss → IsDerived (program_of ss)
parsed_is_derived s ss reading derived = built_is_derived ss (program_fits derived (by_reading s.source (Ok s) s reading refl))
