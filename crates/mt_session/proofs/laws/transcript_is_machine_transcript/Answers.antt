use Rattle.mt_session.proofs.FaithfulRuns.{transcript_is_machine_transcript}
use Rattle.mt_session.proofs.laws.transcript_is_machine_transcript.Goals as goal

pub returns : goal.returns
returns c = transcript_is_machine_transcript
