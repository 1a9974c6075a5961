-- Answers to the open goals of `reader_laws`.
use Rattle.std.proofs.Common.{◌^◌}
use Rattle.std.specs.Int.{w16, w32, w64}
use Rattle.byte_readers.proofs.NumberReaders.{byte_reader, number_reader, signed16_reader, signed64_reader, wide16, wide32, wide64}
use Rattle.byte_readers.proofs.laws.reader_laws.Goals as goal

pub returns-clause-bytes : goal.returns-clause-bytes
returns-clause-bytes g c = byte_reader c.args.short

pub returns-clause-numbers_16 : goal.returns-clause-numbers_16
returns-clause-numbers_16 g c = number_reader c.args.short w16 (2 ^ 16) wide16

pub returns-clause-numbers_32 : goal.returns-clause-numbers_32
returns-clause-numbers_32 g c = number_reader c.args.short w32 (2 ^ 32) wide32

pub returns-clause-numbers_64 : goal.returns-clause-numbers_64
returns-clause-numbers_64 g c = number_reader c.args.short w64 (2 ^ 64) wide64

pub returns-clause-signed_16 : goal.returns-clause-signed_16
returns-clause-signed_16 g c = signed16_reader c.args.short

pub returns-clause-signed_64 : goal.returns-clause-signed_64
returns-clause-signed_64 g c = signed64_reader c.args.short
