-- Answers to the open goals of `answer_laws`.
use Rattle.farm_http.proofs.Bodies.{gain_in_bytes, place_in_bytes, refusal_in_bytes, status_in_bytes, stock_in_bytes, ticket_in_bytes, total_in_bytes}
use Rattle.farm_http.proofs.answers.answer_laws.Goals as goal

pub returns : goal.returns
returns c = record {
  place = place_in_bytes;
  ticket = ticket_in_bytes;
  gain = gain_in_bytes;
  stock = stock_in_bytes;
  total = total_in_bytes;
  refusal = refusal_in_bytes;
  status = status_in_bytes;
}
