use Rattle.name_store.proofs.DraftingLemmas.{draft_of_still, draft_still, draft_of_stays, draft_stays}
use Rattle.name_store.proofs.RunDraftLemmas.{for_begun, for_stays}
use Rattle.name_store.proofs.law.drafts_stay.Goals as goal

pub returns : goal.returns
returns c = record {
  of_as_long = draft_of_still;
  as_long = draft_still;
  of_longer = draft_of_stays;
  longer = λ command old new drafting image before after longer held others adds is on. draft_stays command old new drafting image before.moments.now after.moments.now longer held others adds is on;
  begun = for_begun;
  accepted = for_stays;
}
