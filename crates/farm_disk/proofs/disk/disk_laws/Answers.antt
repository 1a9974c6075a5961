-- Answers to the open goals of `disk_laws`.
use Rattle.farm_disk.proofs.Images.{begun_keeps_images, begun_reaches, empty_write_changes_nothing, synced_is_image, synced_is_one, written_is_image, written_over, written_reaches}
use Rattle.farm_disk.proofs.States.{added_is_present, past_stays, sync_leaves_one}
use Rattle.farm_disk.proofs.disk.disk_laws.Goals as goal

pub returns-clause-synced_is_one : goal.returns-clause-synced_is_one
returns-clause-synced_is_one c = synced_is_one

pub returns-clause-synced_is_image : goal.returns-clause-synced_is_image
returns-clause-synced_is_image c = synced_is_image

pub returns-clause-begun_keeps_images : goal.returns-clause-begun_keeps_images
returns-clause-begun_keeps_images c = begun_keeps_images

pub returns-clause-written_is_image : goal.returns-clause-written_is_image
returns-clause-written_is_image c = written_is_image

pub returns-clause-written_reaches : goal.returns-clause-written_reaches
returns-clause-written_reaches c = written_reaches

pub returns-clause-empty_write : goal.returns-clause-empty_write
returns-clause-empty_write c = empty_write_changes_nothing

pub returns-clause-begun_reaches : goal.returns-clause-begun_reaches
returns-clause-begun_reaches c = begun_reaches

pub returns-clause-written_over : goal.returns-clause-written_over
returns-clause-written_over c = written_over

pub returns-clause-added_is_present : goal.returns-clause-added_is_present
returns-clause-added_is_present c = added_is_present

pub returns-clause-past_stays : goal.returns-clause-past_stays
returns-clause-past_stays c = past_stays

pub returns-clause-sync_leaves_one : goal.returns-clause-sync_leaves_one
returns-clause-sync_leaves_one c = sync_leaves_one
