-- Answers to the open goals of `content`.
use Rattle.std.proofs.Common.{arith}
use Rattle.farm_ports.specs.Folders.{file_named}
use Rattle.site_keys.proofs.Contents.{long_file, whole_file}
use Rattle.site_keys.proofs.files.content.Goals as goal

pub returns-then-len-gt-MOST_FILE_BYTES-clause-content : goal.returns-then-len-gt-MOST_FILE_BYTES-clause-content
returns-then-len-gt-MOST_FILE_BYTES-clause-content g c =
    λ files known. rw (c.into.ensures, c.bad.ensures.fault) (long_file c.args.item c.args.name.now (file_named c.args.name.now files) c.in_ok-bytes.bytes.items (rw known at c.in_ok-bytes.ensures.bytes) (omega arith))

pub returns-clause-content : goal.returns-clause-content
returns-clause-content g c =
    λ files known. whole_file c.args.item c.args.name.now (file_named c.args.name.now files) c.in_ok-bytes.bytes.items (rw known at c.in_ok-bytes.ensures.bytes) (omega arith)
