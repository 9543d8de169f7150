-- A text has one ending, and one that is not accepted has none.
use Rattle.std.proofs.Common.{◌≡◌, List, [], ℕ, Result, Ok, Err, IfOk, length, sym, ap, subst, ◌∙◌}
use Rattle.mt_lexer.proofs.Readings.{only}
use Rattle.mt_lexer.specs.Tokens.{Spelled}
use Rattle.mt_parser_marks.specs.Tokens.{tokens_in}
use Rattle.mt_parser.proofs.Answer.{one_answer}
use Rattle.mt_parser.specs.Parsing.{Answers}
use Rattle.mt_source.specs.Sources.{IsSourceOf, IsNotAcceptedText}
use Rattle.mt_start.specs.Starts.{Ending, EndsLike, StartMeans, StartsAs, ending_of, start_of}
use Rattle.mt_start.specs.declared.startup.Startup.{Startup}
use Rattle.mt_start.specs.declared.startup.Startup.TheVariants.{Started, Failed, NotBuilt, Refused}
use Rattle.mt_stage.specs.Accepted.{broken_places}
use Rattle.mt_syntax.specs.declared.program.Program.{Program}
use Rattle.mt_tree.specs.declared.fault.NoMemory.{NoMemory}
use Rattle.mt_tree.specs.Place.{place_of}

one_program : (text : List ℕ) (p q : Program) → IsSourceOf text p → IsSourceOf text q → p ≡ q
one_program text p q (s, r, a) (u, reads, answers) =
    let same : Ok u ≡ Ok s = only text (Ok s) (Ok u) r reads in
    let tokens : u ≡ s = cc in
    let ends : Ok p ≡ Ok q = one_answer (tokens_in s) (place_of text (length text)) (Ok p) (Ok q) tt tt a (subst (λ (x : Spelled). Answers (tokens_in x) (place_of text (length text)) (Ok q)) tokens answers) in
    cc

pub one_ending : (text : List ℕ) (x y : Ending) → StartsAs text x → StartsAs text y → x ≡ y
one_ending text x y (p, is_p, unbroken_p, ends_p) (q, is_q, unbroken_q, ends_q) =
    sym ends_p ∙ ap (λ r. ending_of (start_of r)) (one_program text p q is_p is_q) ∙ ends_q

pub none_refused : (text : List ℕ) (x : Ending) → StartsAs text x → IsNotAcceptedText text → ⊥
none_refused text x (p, is, unbroken, ends) none = none p is unbroken

-- what is reported of the program's start is reported of its text
pub of_program : (text : List ℕ) (p : Program) → IsSourceOf text p → broken_places p ≡ [] → (result : Result Startup NoMemory)
    → IfOk result (λ ended. EndsLike (ending_of (start_of p)) ended) → IfOk result (λ ended. StartMeans text ended)
of_program text p is unbroken (Ok (Started log)) ends = (p, is, unbroken, ends)
of_program text p is unbroken (Ok (Failed error)) ends = (p, is, unbroken, ends)
of_program text p is unbroken (Ok NotBuilt) ends = (p, is, unbroken, ends)
of_program text p is unbroken (Ok (Refused refusal)) ends = absurd ends
of_program text p is unbroken (Err e) ends = tt
