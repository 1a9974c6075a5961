-- Answers to the open goals of `decoding_laws`.
use Rattle.site_decoding.proofs.LineReaders.{lines_reader}
use Rattle.site_decoding.proofs.HeadReaders.{head_reader}
use Rattle.site_decoding.proofs.ProductReaders.{parties_reader, products_reader}
use Rattle.site_decoding.proofs.TankReaders.{tanks_reader}
use Rattle.site_decoding.proofs.laws.decoding_laws.Goals as goal

pub returns-clause-heads : goal.returns-clause-heads
returns-clause-heads c = head_reader

pub returns-clause-products : goal.returns-clause-products
returns-clause-products c = products_reader

pub returns-clause-parties : goal.returns-clause-parties
returns-clause-parties c = parties_reader

pub returns-clause-tanks : goal.returns-clause-tanks
returns-clause-tanks c = tanks_reader

pub returns-clause-lines : goal.returns-clause-lines
returns-clause-lines c = lines_reader
