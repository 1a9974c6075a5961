-- What is answered to a look-up of a stock or of the total.
use Rattle.std.proofs.Common.{◌≡◌, inl, inr, ℕ, Bool, IsNone, IsSome, Option, Some, None, option_map, unwrap_or, refl, ap}
use Rattle.farm_fixed.specs.declared.records.Amount.{Amount}
use Rattle.farm_site.specs.declared.items.Tank.{Tank}
use Rattle.farm_history.specs.declared.entry.Entry.{Entry}
use Rattle.farm_history.specs.declared.reply.Reply.TheVariants as replies
use Rattle.farm_history.specs.Commands.{is_gauging_of, is_sample_of}
use Rattle.farm_history.specs.Conservation.{IsBoundedBook}
use Rattle.farm_history.specs.History.{History, last_place, tank_after}
use Rattle.farm_history.specs.Places.{last_such}
use Rattle.farm_history.specs.Postings.{book_with, postings_of}
use Rattle.farm_history.specs.Sites.{AreRising}
use Rattle.farm_history.specs.Stocks.{book_of, last_reading, last_sample, total_of}
use Rattle.farm_history.proofs.Books.{books_mean}
use Rattle.farm_history.proofs.LastPlaces.{last_places_mean, none_last}
use Rattle.farm_history.proofs.Totals.{totals_mean}
use Rattle.farm_book.specs.Replies.{IsLastOrZero, IsStockReply, IsTotalReply}

-- a tank of the site has a book
pub book_there : (history : History) (tank : ℕ) → IsSome (tank_after history tank) → book_of history tank ≡ None → ⊥
unfolding book_of
book_there history tank there none = by (tank_after history tank) there none
  where
    by : (found : Option Tank) → IsSome found → option_map (book_with (postings_of history)) found ≡ None → ⊥
    by None there none = cc
    by (Some tank) there none = cc

-- a tank that isn't of the site has none
pub no_book_there : (history : History) (tank : ℕ) (book : Amount) → IsNone (tank_after history tank) → book_of history tank ≡ Some book → ⊥
unfolding book_of
no_book_there history tank book missing there = by (tank_after history tank) missing there
  where
    by : (found : Option Tank) → IsNone found → option_map (book_with (postings_of history)) found ≡ Some book → ⊥
    by None missing there = cc
    by (Some tank) missing there = cc

-- the place that is found last is the last one, and where no place is found no entry passes the test
last_or_zero : (test : Entry → Bool) (history : History) → IsLastOrZero test history (unwrap_or (last_such test history.entries) 0)
last_or_zero test history = by (last_such test history.entries) refl
  where
    by : (found : Option ℕ) → last_such test history.entries ≡ found → IsLastOrZero test history (unwrap_or found 0)
    by None none = inr (refl, none_last test history.entries none)
    by (Some place) found = inl ((last_places_mean test history.entries place).0 found)

-- the book of a tank is answered with the tank's last reading and its last sample
pub stock_given : (history : History) (tank : ℕ) (book : Amount) (reading sample : ℕ) → book_of history tank ≡ Some book →
    IsBoundedBook (last_place history) book → reading ≡ unwrap_or (last_reading history tank) 0 →
    sample ≡ unwrap_or (last_sample history tank) 0 → IsStockReply history tank (replies.Stock tank book reading sample)
unfolding last_reading last_sample
stock_given history tank book reading sample there bounded reading_is sample_is = record {
  book = book;
  reading = reading;
  sample = sample;
  answered = refl;
  adds_up = books_mean history tank book there;
  bounded = bounded;
  last_reading = rw reading_is (last_or_zero (λ entry. is_gauging_of tank entry.cmd) history);
  last_sample = rw sample_is (last_or_zero (λ entry. is_sample_of tank entry.cmd) history);
}

-- the total is answered with the number of entries
pub total_given : (history : History) (entries : ℕ) (total : Amount) → entries ≡ last_place history → total ≡ total_of history →
    AreRising history.site → IsTotalReply history (replies.Total entries total)
total_given history entries total entries_is total_is rising = record {
  total = total;
  answered = ap (λ entries. replies.Total entries total) entries_is;
  adds_up = rw total_is (totals_mean history rising);
}
