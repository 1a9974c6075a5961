-- Answers to the open goals of `add_routes`.
use Rattle.http_requests.specs.Routes.{routes}
use Rattle.http_requests.proofs.routes.add_routes.Goals as goal

pub returns : goal.returns
unfolding routes
returns c =
    rw (c.in_ok-add-11.ensures, c.in_ok-add-10.ensures, c.in_ok-add-9.ensures, c.in_ok-add-8.ensures, c.in_ok-add-7.ensures, c.in_ok-add-6.ensures, c.in_ok-add-5.ensures, c.in_ok-add-4.ensures, c.in_ok-add-3.ensures, c.in_ok-add-2.ensures, c.in_ok-add.ensures) at c.add-12.ensures
