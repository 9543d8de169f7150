use Rattle.std.proofs.Common.{rules, arith, refl, sym, ap, ◌∙◌, subst}
use Rattle.std.specs.Str.{chars}
use Rattle.std.specs.Vec.{vec_len}
use Rattle.mt_outside.proofs.Pieces.{Begins-nil, Begins-more, Part}
use Rattle.mt_outside.proofs.reading.read_file.Goals as goal

pub pieces-init : goal.pieces-init
pieces-init g c = record {
  fits = omega (arith, c.new-bytes.ensures.len);
  begins = rw c.new-bytes.ensures.items (Begins-nil _);
  missing = λ _. (refl, c.new-bytes.ensures.len);
  kept = refl;
  still_missing = λ _ missing. missing;
  later = λ _. omega arith;
}

pub pieces-preserved : goal.pieces-preserved
pieces-preserved g c =
    let same = ap (λ f. f (chars c.args.name.now)) c.pieces.invariant.kept in
    record {
      fits = search rules;
      begins = Begins-more _ _ _ _ _ _ c.pieces.invariant.begins (subst (λ o. Part o (vec_len c.pieces.bytes) c.in_ok-count.count c.read_piece.new.into) same c.in_ok-count.ensures.bytes) c.pieces.bytes.ok.0 c.in_ok-count.ensures.grown;
      missing = λ missing.
          let at_start = subst (λ f. g.F.Files.is_missing f (chars c.args.name.now)) (sym (c.pieces.invariant.missing missing).0) missing in
          let failed = c.in_ok-count.ensures.missing at_start in
          absurd (cc);
      kept = c.in_ok-count.ensures.kept ∙ c.pieces.invariant.kept;
      still_missing = λ other missing. c.in_ok-count.ensures.still_missing other (c.pieces.invariant.still_missing other missing);
      later = λ other. omega (arith, c.in_ok-count.ensures.later other, c.pieces.invariant.later other);
    }

pub returns-clause-missing : goal.returns-clause-missing
returns-clause-missing g c = λ missing. absurd (omega (arith, (c.pieces.invariant.missing missing).1))
