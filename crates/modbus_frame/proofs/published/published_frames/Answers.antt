-- Answers to the open goals of `published_frames`.
use Rattle.std.proofs.Common.{refl}
use Rattle.modbus_frame.specs.Requests.{request_frame}
use Rattle.modbus_frame.specs.Responses.{words_response}
use Rattle.modbus_frame.proofs.published.published_frames.Goals as goal

pub returns : goal.returns
unfolding request_frame words_response
returns c = record {
  published = record {
    holding_request = λ transaction unit. refl;
    holding_response = λ transaction unit. refl;
    input_request = λ transaction unit. refl;
    input_response = λ transaction unit. refl;
  };
}
